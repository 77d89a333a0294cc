use Rattle.std.proofs.Common.{◌≤◌, ◌∙◌, arith, subst}
use Rattle.rmt_values.specs.Schemas.{IsSchema}
use Rattle.rmt_state.specs.States.{StateView, IsState}
use Rattle.rmt_state.specs.States.{numbers_given}
use Rattle.rmt_state.proofs.StateLemmas.{given-few}
use Rattle.rmt_state.proofs.state.State.sound.Goals as goal

pub returns-clause-state : goal.returns-clause-state
returns-clause-state c = subst IsState c.self.view_is c.self.invariant

pub returns-clause-numbers : goal.returns-clause-numbers
returns-clause-numbers c =
    let t = c.self.inside.tree in
    let g = given-few t.next c.no_limit_is_passed.ensures.numbers in
    let l = c.no_limit_is_passed.ensures.partitions in
    subst (λ (v : StateView). numbers_given v.tree.next ≤ 67108864) c.self.view_is (omega (arith, g, l))

pub returns-clause-schema : goal.returns-clause-schema
returns-clause-schema c =
    subst (λ (v : StateView). IsSchema v.tree.schema) c.self.view_is (subst IsSchema (c.deref.ensures ∙ c.schema.ensures) c.columns-columns.ensures.schema)
