use Rattle.std.proofs.Common.{◌≡◌, ℕ, ◌-◌, arith, refl, subst, slice_set}
use Rattle.std.specs.Prelude.{slice_get}
use Rattle.std.specs.declared.option.Option.TheVariants.{Some}
use Rattle.std.proofs.lemmas.Grind.{common_steps}
use Rattle.std.proofs.lemmas.Option.{gets}
use Rattle.rmt_state.specs.States.{StateView, AppliesAt}
use Rattle.rmt_state.proofs.StageLemmas.{state-kept, change-keeps}
use Rattle.rmt_state.proofs.state.State.apply.Goals as goal

pub apply-requires-clause-place : goal.apply-requires-clause-place
apply-requires-clause-place c =
    let i = c.self.inside in
    let j = c.from.result - 1 in
    let x = c.index_mut.result.now in
    let there : slice_get i.replicas.items j ≡ Some x = grind (arith, common_steps, gets) in
    let here = subst (λ (k : ℕ). slice_get i.replicas.items (k - 1) ≡ Some x) c.from.ensures there in
    c.requires.place x (subst (λ (v : StateView). slice_get v.replicas (c.args.replica - 1) ≡ Some x) c.self.view_is here)

pub apply-requires-clause-of_table : goal.apply-requires-clause-of_table
apply-requires-clause-of_table c =
    let i = c.self.inside in
    let j = c.from.result - 1 in
    let x = c.index_mut.result.now in
    let there : slice_get i.replicas.items j ≡ Some x = grind (arith, common_steps, gets) in
    let here = subst (λ (k : ℕ). slice_get i.replicas.items (k - 1) ≡ Some x) c.from.ensures there in
    c.requires.of_table x (subst (λ (v : StateView). slice_get v.replicas (c.args.replica - 1) ≡ Some x) c.self.view_is here)

pub invariant_of-self : goal.invariant_of-self
invariant_of-self c =
    let i = c.self.inside in
    let j = c.from.result - 1 in
    let y = c.index_mut.result.now in
    let there : slice_get i.replicas.items j ≡ Some y = grind (arith, common_steps, gets) in
    state-kept i.tree i.replicas.items j y c.apply.new.self c.self.invariant there (change-keeps y c.apply.new.self c.args.i c.args.supply c.apply.result c.apply.ensures.change)

pub returns : goal.returns
returns c =
    let i = c.self.inside in
    let j = c.from.result - 1 in
    let x = c.index_mut.result.now in
    let there : slice_get i.replicas.items j ≡ Some x = grind (arith, common_steps, gets) in
    let s : StateView = record { tree = i.tree; replicas = i.replicas.items } in
    let t : StateView = record { tree = i.tree; replicas = slice_set i.replicas.items j c.apply.new.self } in
    let told : AppliesAt s c.from.result c.args.i c.args.supply c.apply.result t = record {
      old = x;
      new = c.apply.new.self;
      at = there;
      answers = c.apply.ensures.answer;
      changes = c.apply.ensures.change;
      rest = refl;
    } in
    subst (λ (v : StateView). AppliesAt v c.args.replica c.args.i c.args.supply c.apply.result t) c.self.view_is
    (subst (λ (k : ℕ). AppliesAt s k c.args.i c.args.supply c.apply.result t) c.from.ensures told)
