use Rattle.std.proofs.Common.{◌≡◌, ◌-◌, arith, subst}
use Rattle.std.specs.Prelude.{slice_get}
use Rattle.std.specs.declared.option.Option.TheVariants.{Some}
use Rattle.std.proofs.lemmas.Grind.{common_steps}
use Rattle.std.proofs.lemmas.Option.{gets}
use Rattle.rmt_state.specs.States.{StateView, Belongs, IsWorkerAt}
use Rattle.rmt_state.proofs.StateLemmas.{at-place}
use Rattle.rmt_history.proofs.ListLemmas.{get-has}
use Rattle.rmt_state.proofs.state.State.worker.Goals as goal

pub returns : goal.returns
returns c =
    let i = c.self.inside in
    let j = c.from.result - 1 in
    let there : slice_get i.replicas.items j ≡ Some c.index.result.now = grind (arith, common_steps, gets) in
    let b = Belongs.numbered (at-place i.tree 1 i.replicas.items j c.index.result.now c.self.invariant.numbered there) in
    let f = c.requires.here.first in
    let e = c.from.ensures in
    record { at = subst (λ (v : StateView). IsWorkerAt v c.args.replica c.index.result.now) c.self.view_is (record { is_in = get-has i.replicas.items j c.index.result.now there; numbered = omega (arith, b, f, e) }) }
