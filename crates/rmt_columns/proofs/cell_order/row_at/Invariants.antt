use Rattle.std.proofs.Common.{◌≡◌, ◌++◌, drop}
use Rattle.rmt_columns.specs.RowsByColumn.{row_at as cells_at}
use Rattle.rmt_columns.proofs.cell_order.row_at.Given as goal

abbrev pub invariant-columns : goal.invariant-columns
invariant-columns l = l.values.items ++ cells_at l.i (drop l.column-index l.columns) ≡ cells_at l.i l.columns
