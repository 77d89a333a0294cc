use Rattle.std.proofs.Common.{◌≡◌, ◌∙◌, sym, ap, subst}
use Rattle.std.specs.Prelude.{List}
use Rattle.std.specs.Arc.{arc_value}
use Rattle.rmt_names.specs.Names.{Overlap, Covers}
use Rattle.rmt_model.specs.Words.{Each}
use Rattle.rmt_part.specs.Lineages.{PartValue}
use Rattle.rmt_partset.specs.ActiveParts.{Replace, after, part_names}
use Rattle.rmt_replica.specs.Replicas.{ReplicaView, replica_of}
use Rattle.rmt_replica.specs.Answers.{CanInstall}
use Rattle.rmt_replica.proofs.StepLemmas.{over-of, standing-after-replace, covered-after-replace}
use Rattle.rmt_replica.proofs.replica.Replica.put.Goals as goal

module _ (c : goal.After-replace) where
  replaced : c.replace.new.self.parts ≡ after (Replace (arc_value c.args.part)) c.self.inside.parts.parts
  replaced = c.replace.ensures.parts ∙ ap (after (Replace (arc_value c.args.part))) c.reserve.ensures.parts

pub replace-requires-clause-over : goal.replace-requires-clause-over
replace-requires-clause-over c =
    let i = c.self.inside in
    let can = subst (λ (r : ReplicaView). CanInstall r c.args.i c.args.name (arc_value c.args.part)) (sym c.self.view_is) c.requires in
    subst (λ (ps : List PartValue). Each (λ a. Overlap (arc_value c.args.part).name a → Covers (arc_value c.args.part).name a) (part_names ps)) (sym c.reserve.ensures.parts)
    (over-of (replica_of i.number i.up i.fetches i.copy i.queue i.parts.parts i.staged i.noted.items) c.args.i c.args.name (arc_value c.args.part) c.self.invariant.standing can)

pub invariant_of-self-2 : goal.invariant_of-self-2
invariant_of-self-2 c =
    let i = c.self.inside in
    let can = subst (λ (r : ReplicaView). CanInstall r c.args.i c.args.name (arc_value c.args.part)) (sym c.self.view_is) c.requires in
    record {
      marked = c.self.invariant.marked;
      standing = standing-after-replace (replica_of i.number i.up i.fetches i.copy i.queue i.parts.parts i.staged i.noted.items) c.args.i c.args.name (arc_value c.args.part) c.replace.new.self.parts c.self.invariant.standing can (replaced c);
    }

pub returns-clause-covered : goal.returns-clause-covered
returns-clause-covered c =
    let i = c.self.inside in
    let can = subst (λ (r : ReplicaView). CanInstall r c.args.i c.args.name (arc_value c.args.part)) (sym c.self.view_is) c.requires in
    covered-after-replace (replica_of i.number i.up i.fetches i.copy i.queue i.parts.parts i.staged i.noted.items) c.args.i c.args.name (arc_value c.args.part) c.replace.new.self.parts can (replaced c)
