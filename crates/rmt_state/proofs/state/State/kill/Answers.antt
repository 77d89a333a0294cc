use Rattle.std.proofs.Common.{◌≡◌, ◌-◌, arith, refl, ap, subst, slice_set}
use Rattle.std.specs.Prelude.{slice_get}
use Rattle.std.specs.declared.option.Option.TheVariants.{Some}
use Rattle.std.proofs.lemmas.Grind.{common_steps}
use Rattle.std.proofs.lemmas.Option.{gets}
use Rattle.rmt_replica.specs.Replicas.{ReplicaView}
use Rattle.rmt_events.specs.declared.event.Event.TheVariants as ev
use Rattle.rmt_events.specs.declared.reply.Reply.TheVariants as rp
use Rattle.rmt_state.specs.States.{StateView, Acts}
use Rattle.rmt_state.proofs.SessionLemmas.{closes-on, changed-state, kill-acts}
use Rattle.rmt_state.proofs.state.State.kill.Goals as goal

pub invariant_of-self : goal.invariant_of-self
invariant_of-self c =
    let i = c.self.inside in
    let there : slice_get i.replicas.items (c.from.result - 1) ≡ Some c.index_mut.result.now = grind (arith, common_steps, gets) in
    changed-state i.tree c.close.new.self i.replicas.items (c.from.result - 1) c.index_mut.result.now c.kill.new.self c.self.invariant (closes-on i.tree c.close.new.self c.args.replica c.close.ensures.closes (record { sessions = c.close.ensures.replicas; row = c.close.ensures.row })) there
    (ap (λ (r : ReplicaView). r.number) c.kill.ensures) (ap (λ (r : ReplicaView). r.schema) c.kill.ensures) (ap (λ (r : ReplicaView). r.log) c.kill.ensures) (ap (λ (r : ReplicaView). r.cells) c.kill.ensures)

pub returns : goal.returns
returns c =
    let i = c.self.inside in
    let there : slice_get i.replicas.items (c.from.result - 1) ≡ Some c.index_mut.result.now = grind (arith, common_steps, gets) in
    let t : StateView = record { tree = c.close.new.self; replicas = slice_set i.replicas.items (c.from.result - 1) c.kill.new.self } in
    let f = c.requires.here.first in
    let e = c.from.ensures in
    subst (λ (v : StateView). Acts v (ev.Kill c.args.replica) rp.Done t) c.self.view_is
    (kill-acts (record { tree = i.tree; replicas = i.replicas.items }) t c.args.replica (c.from.result - 1) c.index_mut.result.now c.kill.new.self c.self.invariant (omega (arith, f, e)) there c.close.ensures.closes c.kill.ensures refl)
