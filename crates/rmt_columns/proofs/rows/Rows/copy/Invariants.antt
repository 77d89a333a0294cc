use Rattle.std.proofs.Common.{◌≡◌, take}
use Rattle.rmt_columns.proofs.rows.Rows.copy.Given as goal

abbrev pub invariant-columns : goal.invariant-columns
invariant-columns l = l.columns.items ≡ take l.column-index l.all
