use Rattle.std.proofs.Common.{◌≡◌, take}
use Rattle.rmt_columns.proofs.RowsLemmas.{columns_at}
use Rattle.rmt_columns.proofs.rows.Rows.gather.Given as goal

abbrev pub invariant-columns : goal.invariant-columns
invariant-columns l = l.columns.items ≡ columns_at l.places (take l.column-index l.all)
