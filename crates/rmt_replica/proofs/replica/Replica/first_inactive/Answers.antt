use Rattle.std.proofs.Common.{◌≡◌, arith, subst, sym, slice_get}
use Rattle.std.proofs.lemmas.Grind.{common_steps}
use Rattle.std.proofs.lemmas.Option.{gets}
use Rattle.std.specs.declared.option.Option.TheVariants.{Some}
use Rattle.rmt_model.specs.Words.{Has}
use Rattle.rmt_partset.specs.ActiveParts.{part_names}
use Rattle.rmt_replica.specs.Replicas.{ReplicaView}
use Rattle.rmt_replica.proofs.PartLemmas.{first-inactive}
use Rattle.rmt_replica.proofs.replica.Replica.first_inactive.Goals as goal

pub returns-then-not-contains : goal.returns-then-not-contains
returns-then-not-contains c =
    let there : slice_get c.args.names.now c.names.name-index ≡ Some c.name-item.result = grind (arith, common_steps, gets) in
    first-inactive (part_names c.args.self.now.parts) c.args.names.now c.names.name-index c.name-item.result there c.names.invariant
    (λ h. let t = c.contains.ensures.1 (subst (λ (r : ReplicaView). Has (part_names r.parts) c.name-item.result) (sym c.self.view_is) h) in let f = c.if-not-contains.true in absurd (cc))
