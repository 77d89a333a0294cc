use Rattle.std.proofs.Common.{◌≡◌, drop}
use Rattle.rmt_columns.specs.RowsByColumn.{cells_cmp}
use Rattle.rmt_columns.proofs.cell_order.order_of_rows.Given as goal

abbrev pub invariant-columns : goal.invariant-columns
invariant-columns l = cells_cmp l.key l.left l.i l.right l.j ≡ cells_cmp (drop l.column-index l.key) l.left l.i l.right l.j
