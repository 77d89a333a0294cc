use Rattle.std.proofs.Common.{◌≡◌, ◌-◌, arith, refl, ap, subst, slice_set}
use Rattle.std.specs.Prelude.{slice_get}
use Rattle.std.specs.declared.option.Option.TheVariants.{Some}
use Rattle.std.proofs.lemmas.Grind.{common_steps}
use Rattle.std.proofs.lemmas.Option.{gets}
use Rattle.rmt_replica.specs.Replicas.{ReplicaView}
use Rattle.rmt_events.specs.declared.event.Event.TheVariants as ev
use Rattle.rmt_events.specs.declared.reply.Reply.TheVariants as rp
use Rattle.rmt_state.specs.States.{StateView, Acts}
use Rattle.rmt_state.proofs.StateLemmas.{goes-on-same}
use Rattle.rmt_state.proofs.SessionLemmas.{changed-state}
use Rattle.rmt_state.proofs.NoteLemmas.{switch-acts}
use Rattle.rmt_state.proofs.state.State.set_fetches.Goals as goal

pub invariant_of-self : goal.invariant_of-self
invariant_of-self c =
    let i = c.self.inside in
    let there : slice_get i.replicas.items (c.from.result - 1) ≡ Some c.index_mut.result.now = grind (arith, common_steps, gets) in
    changed-state i.tree i.tree i.replicas.items (c.from.result - 1) c.index_mut.result.now c.set_fetches.new.self c.self.invariant (goes-on-same i.tree i.tree refl) there
    (ap (λ (r : ReplicaView). r.number) c.set_fetches.ensures) (ap (λ (r : ReplicaView). r.schema) c.set_fetches.ensures) (ap (λ (r : ReplicaView). r.log) c.set_fetches.ensures) (ap (λ (r : ReplicaView). r.cells) c.set_fetches.ensures)

pub returns : goal.returns
returns c =
    let i = c.self.inside in
    let there : slice_get i.replicas.items (c.from.result - 1) ≡ Some c.index_mut.result.now = grind (arith, common_steps, gets) in
    let s : StateView = record { tree = i.tree; replicas = i.replicas.items } in
    let t : StateView = record { tree = i.tree; replicas = slice_set i.replicas.items (c.from.result - 1) c.set_fetches.new.self } in
    let f = c.requires.here.first in
    let e = c.from.ensures in
    subst (λ (v : StateView). Acts v (ev.Fetches c.args.replica c.args.allowed) rp.Done t) c.self.view_is
    (switch-acts s t c.args.replica (c.from.result - 1) c.index_mut.result.now c.set_fetches.new.self c.args.allowed c.self.invariant (omega (arith, f, e)) there c.set_fetches.ensures refl refl)
