use Rattle.std.proofs.Common.{◌≡◌, [], take}
use Rattle.rmt_columns.specs.RowsByColumn.{kinds_in}
use Rattle.rmt_columns.proofs.rows.Rows.from_rows.Given as goal

abbrev pub invariant-rows : goal.invariant-rows
invariant-rows l = l.builder ≡ record { kinds = kinds_in l.columns; rows = take l.row-index l.rows; begun = [] }
