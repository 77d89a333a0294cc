use Rattle.std.proofs.Common.{◌≡◌, take}
use Rattle.rmt_values.specs.Schemas.{names_of}
use Rattle.rmt_sql_rows.proofs.insert.column_names.Given as goal

abbrev pub invariant-columns : goal.invariant-columns
invariant-columns l = l.names.items ≡ names_of (take l.column-index l.columns)
