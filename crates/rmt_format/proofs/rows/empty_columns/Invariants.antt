use Rattle.std.proofs.Common.{◌≡◌, take}
use Rattle.rmt_columns.specs.RowsByColumn.{no_values}
use Rattle.rmt_format.proofs.rows.empty_columns.Given as goal

abbrev pub invariant-columns : goal.invariant-columns
invariant-columns l = l.made.items ≡ no_values (take l.column-index l.columns)
