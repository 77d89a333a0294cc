use Rattle.std.proofs.Common.{◌≡◌, drop}
use Rattle.rmt_values.specs.Rows.{key_cmp}
use Rattle.rmt_columns.proofs.row_ref.RowRef.compare_by.Given as goal

abbrev pub invariant-columns : goal.invariant-columns
invariant-columns l = key_cmp l.columns l.self l.other ≡ key_cmp (drop l.column-index l.columns) l.self l.other
