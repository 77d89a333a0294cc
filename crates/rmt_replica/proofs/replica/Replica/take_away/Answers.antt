use Rattle.std.proofs.Common.{inr, ◌≡◌, subst, sym}
use Rattle.std.specs.declared.option.Option.TheVariants.{Some}
use Rattle.rmt_entries.specs.declared.entry.Entry.TheVariants.{DropRange}
use Rattle.rmt_model.specs.Lawful.{entry_at}
use Rattle.rmt_replica.specs.Replicas.{ReplicaView, replica_of}
use Rattle.rmt_replica.proofs.StepLemmas.{standing-after-drop, emptied-after-drop}
use Rattle.rmt_replica.proofs.replica.Replica.take_away.Goals as goal

pub invariant_of-self : goal.invariant_of-self
invariant_of-self c =
    let i = c.self.inside in
    let at = subst (λ (r : ReplicaView). entry_at r.log c.args.i ≡ Some (DropRange c.args.partition c.args.number)) (sym c.self.view_is) c.requires.entry in
    record {
      marked = c.self.invariant.marked;
      standing = standing-after-drop (replica_of i.number i.up i.fetches i.copy i.queue i.parts.parts i.staged i.noted.items) c.args.i c.args.partition c.args.number c.drop_range.new.self.parts c.self.invariant.standing at c.drop_range.ensures;
    }

pub returns-clause-emptied : goal.returns-clause-emptied
returns-clause-emptied c =
    let i = c.self.inside in
    let at = subst (λ (r : ReplicaView). entry_at r.log c.args.i ≡ Some (DropRange c.args.partition c.args.number)) (sym c.self.view_is) c.requires.entry in
    inr (inr (emptied-after-drop (replica_of i.number i.up i.fetches i.copy i.queue i.parts.parts i.staged i.noted.items) c.args.i c.args.partition c.args.number c.drop_range.new.self.parts c.self.invariant.standing at c.drop_range.ensures))
