use Rattle.std.proofs.Common.{◌∙◌, List, [], map, ap}
use Rattle.rmt_values.specs.declared.cell.Cell.{Cell}
use Rattle.rmt_values.specs.declared.checked_item.CheckedItem.{CheckedItem}
use Rattle.rmt_partset.specs.Snapshots.{all_rows, data_in}
use Rattle.rmt_query.specs.Cells.{zero_of}
use Rattle.rmt_query.specs.Answers.{groups_of, or_zeros}
use Rattle.rmt_query.proofs.RunLemmas.{Key}
use Rattle.rmt_query.proofs.TotalLemmas.{totals-are}
use Rattle.rmt_query.proofs.answers.tuples_read.Goals as goal

pub returns-then-are_settled : goal.returns-then-are_settled
returns-then-are_settled c =
    let shape = c.args.schema.now in
    let rows = all_rows (data_in c.args.parts.now) in
    let made =
    c.in_ok-tuples-2.ensures
    ∙ (ap (or_zeros [] (map (λ i. zero_of shape i) c.as_slice-items.result.now)) c.in_ok-tuples.ensures
    ∙ ap (λ (l : List CheckedItem). or_zeros [] (map (λ i. zero_of shape i) l) (map (λ (g : Key × List Cell). g.1) (groups_of l [] rows))) c.as_slice-items.ensures) in
    totals-are shape c.args.query.now _ rows _ (c.is_total.ensures.filter c.if-is_total.true) (c.is_total.ensures.group c.if-is_total.true) (c.is_total.ensures.grouping c.if-is_total.true) (c.are_settled.ensures.rows c.if-are_settled.true) made
