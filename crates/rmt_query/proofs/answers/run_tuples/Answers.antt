use Rattle.std.proofs.Common.{List, [], map, ap, ◌∙◌}
use Rattle.rmt_values.specs.declared.value.Value.{Value}
use Rattle.rmt_values.specs.declared.cell.Cell.{Cell}
use Rattle.rmt_values.specs.Rows.{key_cmp}
use Rattle.rmt_query.proofs.Bags.{folded-order}
use Rattle.rmt_query.proofs.RunLemmas.{Key, Groups, put, put-may-change, tuples}
use Rattle.rmt_query.proofs.answers.run_tuples.Goals as goal

pub returns : goal.returns
returns c =
    let columns = c.args.columns.now in
    let items = c.args.items.now in
    let rows = c.args.rows.items in
    let sorted = c.deref.ensures.value ∙ c.in_ok-sorted.ensures.order in
    let alike = folded-order (key_cmp columns) (put items columns) [] (put-may-change items columns) rows in
    c.in_ok-tuples.ensures
    ∙ (ap (λ (l : List (List Value)). tuples items columns l) sorted
    ∙ ap (λ (gs : Groups items columns). map (λ (g : Key × List Cell). g.1) gs) alike)
