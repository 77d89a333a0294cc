use Rattle.std.proofs.Common.{◌≡◌, ◌-◌, ◌∙◌, arith, sym, subst, slice_set}
use Rattle.std.specs.Prelude.{slice_get, OnOk}
use Rattle.std.specs.Arc.{arc_value}
use Rattle.std.specs.declared.option.Option.TheVariants.{Some}
use Rattle.std.proofs.lemmas.Grind.{common_steps}
use Rattle.std.proofs.lemmas.Option.{gets}
use Rattle.rmt_replica.specs.Replicas.{IsStandingReplica}
use Rattle.rmt_events.specs.Clusters.{without_kinds}
use Rattle.rmt_events.specs.ReplicaCalls.{Stages}
use Rattle.rmt_state.specs.States.{StateView, ActsAt, IsDownIn}
use Rattle.rmt_state.proofs.StateLemmas.{some-same}
use Rattle.rmt_state.proofs.StageLemmas.{state-kept, staged-keeps, stages-at, down-at}
use Rattle.rmt_state.proofs.state.State.stage.Goals as goal

pub invariant_of-self : goal.invariant_of-self
invariant_of-self c =
    let i = c.self.inside in
    let there : slice_get i.replicas.items (c.from-at.result - 1) ≡ Some c.index_mut.result.now = grind (arith, common_steps, gets) in
    state-kept i.tree i.replicas.items (c.from-at.result - 1) c.index_mut.result.now c.stage.new.self c.self.invariant there
    (staged-keeps c.stage.result c.index_mut.result.now c.stage.new.self c.args.number (arc_value c.args.block) c.stage.ensures.ok c.stage.ensures.err)

pub returns-clause-ok : goal.returns-clause-ok
returns-clause-ok c =
    let i = c.self.inside in
    let there : slice_get i.replicas.items (c.from-at.result - 1) ≡ Some c.index_mut.result.now = grind (arith, common_steps, gets) in
    let lent : slice_get i.replicas.items (c.from-at.result - 1) ≡ Some c.index.result.now = grind (arith, common_steps, gets) in
    let t = subst IsStandingReplica (some-same c.index.result.now c.index_mut.result.now (sym lent ∙ there)) c.copy-standing.ensures.standing in
    let f = c.requires.here.first in
    let e = c.from-at.ensures in
    subst (λ (v : StateView). OnOk c.stage.result (ActsAt v c.args.replica (λ x y. Stages x c.args.number (without_kinds (arc_value c.args.block)) y) (record { tree = i.tree; replicas = slice_set i.replicas.items (c.from-at.result - 1) c.stage.new.self }))) c.self.view_is
    (stages-at c.stage.result (record { tree = i.tree; replicas = i.replicas.items }) c.args.replica (c.from-at.result - 1) c.args.number c.index_mut.result.now c.stage.new.self (arc_value c.args.block) c.self.invariant (omega (arith, f, e)) there t c.stage.ensures.down c.stage.ensures.ok)

pub returns-clause-down : goal.returns-clause-down
returns-clause-down c =
    let i = c.self.inside in
    let there : slice_get i.replicas.items (c.from-at.result - 1) ≡ Some c.index_mut.result.now = grind (arith, common_steps, gets) in
    let f = c.requires.here.first in
    let e = c.from-at.ensures in
    λ q. subst (λ (v : StateView). IsDownIn v c.args.replica) c.self.view_is
    (down-at c.stage.result (record { tree = i.tree; replicas = i.replicas.items }) c.args.replica (c.from-at.result - 1) c.index_mut.result.now c.self.invariant (omega (arith, f, e)) there c.stage.ensures.down q)
