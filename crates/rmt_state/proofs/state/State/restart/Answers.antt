use Rattle.std.proofs.Common.{◌≡◌, ◌-◌, ◌∙◌, arith, refl, ap, sym, subst, slice_set, List, true, false, replicate, length}
use Rattle.std.specs.Prelude.{slice_get}
use Rattle.std.specs.declared.option.Option.TheVariants.{Some}
use Rattle.std.proofs.lemmas.Grind.{common_steps}
use Rattle.std.proofs.lemmas.Option.{gets}
use Rattle.rmt_table_model.specs.Held.{Held}
use Rattle.rmt_table.specs.TableTrees.{table_at}
use Rattle.rmt_replica.specs.Replicas.{ReplicaView}
use Rattle.rmt_events.specs.declared.event.Event.TheVariants as ev
use Rattle.rmt_events.specs.declared.reply.Reply.TheVariants as rp
use Rattle.rmt_state.specs.States.{StateView, IsState, Acts}
use Rattle.rmt_state.proofs.StateLemmas.{at-err}
use Rattle.rmt_state.proofs.SessionLemmas.{closes-on, opens-on, goes-on-trans, changed-state, kill-acts, restart-acts, IsSetAgain, set-again}
use Rattle.rmt_state.proofs.state.State.restart.Goals as goal

pub invariant_of-self : goal.invariant_of-self
invariant_of-self c =
    let i = c.self.inside in
    let there : slice_get i.replicas.items (c.from.result - 1) ≡ Some c.index_mut.result.now = grind (arith, common_steps, gets) in
    subst (λ (h : Held). IsState (record { tree = h; replicas = slice_set i.replicas.items (c.from.result - 1) c.kill.new.self })) (sym c.in_err-open.ensures.err)
    (changed-state i.tree c.close.new.self i.replicas.items (c.from.result - 1) c.index_mut.result.now c.kill.new.self c.self.invariant (closes-on i.tree c.close.new.self c.args.replica c.close.ensures.closes (record { sessions = c.close.ensures.replicas; row = c.close.ensures.row })) there
    (ap (λ (r : ReplicaView). r.number) c.kill.ensures) (ap (λ (r : ReplicaView). r.schema) c.kill.ensures) (ap (λ (r : ReplicaView). r.log) c.kill.ensures) (ap (λ (r : ReplicaView). r.cells) c.kill.ensures))

pub returns-in_err-open-clause-err : goal.returns-in_err-open-clause-err
returns-in_err-open-clause-err c =
    let i = c.self.inside in
    let there : slice_get i.replicas.items (c.from.result - 1) ≡ Some c.index_mut.result.now = grind (arith, common_steps, gets) in
    let t : Held → StateView = λ h. record { tree = h; replicas = slice_set i.replicas.items (c.from.result - 1) c.kill.new.self } in
    let f = c.requires.here.first in
    let e = c.from.ensures in
    at-err c.from_residual.result _
    (subst (λ (h : Held). Acts c.args.self.now (ev.Kill c.args.replica) rp.Done (record { tree = h; replicas = slice_set i.replicas.items (c.from.result - 1) c.kill.new.self })) (sym c.in_err-open.ensures.err)
    (subst (λ (v : StateView). Acts v (ev.Kill c.args.replica) rp.Done (record { tree = c.close.new.self; replicas = slice_set i.replicas.items (c.from.result - 1) c.kill.new.self })) c.self.view_is
    (kill-acts (record { tree = i.tree; replicas = i.replicas.items }) (record { tree = c.close.new.self; replicas = slice_set i.replicas.items (c.from.result - 1) c.kill.new.self }) c.args.replica (c.from.result - 1) c.index_mut.result.now c.kill.new.self c.self.invariant (omega (arith, f, e)) there c.close.ensures.closes c.kill.ensures refl)))

pub invariant_of-self-2 : goal.invariant_of-self-2
invariant_of-self-2 c =
    let i = c.self.inside in
    let there : slice_get i.replicas.items (c.from.result - 1) ≡ Some c.index_mut.result.now = grind (arith, common_steps, gets) in
    let again : slice_get (slice_set i.replicas.items (c.from.result - 1) c.kill.new.self) (c.from-2.result - 1) ≡ Some c.index_mut-2.result.now = grind (arith, common_steps, gets) in
    let j = ap (λ n. n - 1) (c.from-2.ensures ∙ sym c.from.ensures) in
    let s : IsSetAgain i.replicas.items (c.from.result - 1) (c.from-2.result - 1) c.kill.new.self c.index_mut-2.result.now c.restart.new.self = set-again _ _ _ _ _ _ _ j there again in
    let y = c.restart.ensures ∙ ap (λ (z : ReplicaView). record z { up = true; done = replicate (length z.log) false }) (s.same ∙ c.kill.ensures) in
    subst (λ (rs : List ReplicaView). IsState (record { tree = c.open.new.self; replicas = rs })) (sym s.set)
    (changed-state i.tree c.open.new.self i.replicas.items (c.from.result - 1) c.index_mut.result.now c.restart.new.self c.self.invariant
    (goes-on-trans i.tree c.close.new.self c.open.new.self (closes-on i.tree c.close.new.self c.args.replica c.close.ensures.closes (record { sessions = c.close.ensures.replicas; row = c.close.ensures.row })) (opens-on c.close.new.self c.open.new.self c.args.replica c.in_ok-open.ensures.opens (record { sessions = c.open.ensures.replicas; row = c.open.ensures.row }))) there
    (ap (λ (r : ReplicaView). r.number) y) (ap (λ (r : ReplicaView). r.schema) y) (ap (λ (r : ReplicaView). r.log) y) (ap (λ (r : ReplicaView). r.cells) y))

pub returns-clause-ok : goal.returns-clause-ok
returns-clause-ok c =
    let i = c.self.inside in
    let there : slice_get i.replicas.items (c.from.result - 1) ≡ Some c.index_mut.result.now = grind (arith, common_steps, gets) in
    let again : slice_get (slice_set i.replicas.items (c.from.result - 1) c.kill.new.self) (c.from-2.result - 1) ≡ Some c.index_mut-2.result.now = grind (arith, common_steps, gets) in
    let j = ap (λ n. n - 1) (c.from-2.ensures ∙ sym c.from.ensures) in
    let s : IsSetAgain i.replicas.items (c.from.result - 1) (c.from-2.result - 1) c.kill.new.self c.index_mut-2.result.now c.restart.new.self = set-again _ _ _ _ _ _ _ j there again in
    let y = c.restart.ensures ∙ ap (λ (z : ReplicaView). record z { up = true; done = replicate (length z.log) false }) (s.same ∙ c.kill.ensures) in
    let f = c.requires.here.first in
    let e = c.from.ensures in
    subst (λ (v : StateView). Acts v (ev.Restart c.args.replica) rp.Done (record { tree = c.open.new.self; replicas = slice_set (slice_set i.replicas.items (c.from.result - 1) c.kill.new.self) (c.from-2.result - 1) c.restart.new.self })) c.self.view_is
    (restart-acts (record { tree = i.tree; replicas = i.replicas.items }) (record { tree = c.open.new.self; replicas = slice_set (slice_set i.replicas.items (c.from.result - 1) c.kill.new.self) (c.from-2.result - 1) c.restart.new.self }) (table_at c.close.new.self) c.args.replica (c.from.result - 1) c.index_mut.result.now c.restart.new.self c.self.invariant (omega (arith, f, e)) there c.close.ensures.closes c.in_ok-open.ensures.opens y s.set)
