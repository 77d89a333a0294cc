use Rattle.std.proofs.Common.{rules, ◌≡◌, ◌∙◌, sym}
use mir.Val.{to_z, of_z}
use mir.Syntax.{w128}
use Rattle.rmt_query.proofs.SumLemmas.{total-leading}
use Rattle.rmt_query.proofs.row_values.RowsRowValues.sum.Goals as goal

pub returns-in-Some : goal.returns-in-Some
returns-in-Some c =
    let back : to_z w128 (of_z w128 c.sum_of_numbers.result) ≡ c.sum_of_numbers.result = search rules in
    record { sum = back ∙ (c.sum_of_numbers.ensures ∙ sym (total-leading c.args.column c.args.self.now.rows c.in-Some.numbers.now c.in-Some.ensures.some)) }
