use Rattle.std.proofs.Common.{◌≡◌, map, take}
use Rattle.rmt_query.specs.OverRows.{over}
use Rattle.rmt_query.proofs.runs.tuple_over.Given as goal

abbrev pub invariant-items : goal.invariant-items
invariant-items g l = l.cells.items ≡ map (λ i. over i (g.R.RowValues.rows l.rows)) (take l.item-index l.items)
