use Rattle.std.proofs.Common.{◌≡◌, map, take}
use Rattle.rmt_query.specs.Cells.{one}
use Rattle.rmt_query.proofs.answers.row_tuple.Given as goal

abbrev pub invariant-items : goal.invariant-items
invariant-items l = l.cells.items ≡ map (λ i. one i l.row) (take l.item-index l.items)
