use Rattle.std.proofs.Common.{◌≡◌, ◌-◌, ◌∙◌, arith, ap, sym, subst, slice_set}
use Rattle.std.specs.Prelude.{slice_get}
use Rattle.std.specs.declared.option.Option.TheVariants.{Some}
use Rattle.std.proofs.lemmas.Grind.{common_steps}
use Rattle.std.proofs.lemmas.Option.{gets}
use Rattle.rmt_replica.specs.Replicas.{ReplicaView, IsStandingReplica}
use Rattle.rmt_events.specs.ReplicaCalls.{Unstages}
use Rattle.rmt_state.specs.States.{StateView, ChangesAt}
use Rattle.rmt_state.proofs.StateLemmas.{some-same}
use Rattle.rmt_state.proofs.StageLemmas.{state-kept, unstages-at}
use Rattle.rmt_state.proofs.state.State.unstage.Goals as goal

pub invariant_of-self : goal.invariant_of-self
invariant_of-self c =
    let i = c.self.inside in
    let there : slice_get i.replicas.items (c.from-at.result - 1) ≡ Some c.index_mut.result.now = grind (arith, common_steps, gets) in
    let e = c.unstage.ensures in
    state-kept i.tree i.replicas.items (c.from-at.result - 1) c.index_mut.result.now c.unstage.new.self c.self.invariant there
    (record { number = ap (λ (z : ReplicaView). z.number) e; schema = ap (λ (z : ReplicaView). z.schema) e; log = ap (λ (z : ReplicaView). z.log) e; cells = ap (λ (z : ReplicaView). z.cells) e })

pub returns : goal.returns
returns c =
    let i = c.self.inside in
    let there : slice_get i.replicas.items (c.from-at.result - 1) ≡ Some c.index_mut.result.now = grind (arith, common_steps, gets) in
    let lent : slice_get i.replicas.items (c.from-at.result - 1) ≡ Some c.index.result.now = grind (arith, common_steps, gets) in
    let t = subst IsStandingReplica (some-same c.index.result.now c.index_mut.result.now (sym lent ∙ there)) c.copy-standing.ensures.standing in
    let f = c.requires.here.first in
    let e = c.from-at.ensures in
    subst (λ (v : StateView). ChangesAt v c.args.replica (λ x y. Unstages x c.args.partition c.args.number y) (record { tree = i.tree; replicas = slice_set i.replicas.items (c.from-at.result - 1) c.unstage.new.self })) c.self.view_is
    (unstages-at (record { tree = i.tree; replicas = i.replicas.items }) c.args.replica (c.from-at.result - 1) c.args.number c.args.partition c.index_mut.result.now c.unstage.new.self c.self.invariant (omega (arith, f, e)) there t c.unstage.ensures)
