use Rattle.std.proofs.Common.{◌≡◌, take}
use Rattle.rmt_sql_rows.specs.InsertedRows.{places_in}
use Rattle.rmt_sql_rows.proofs.names.places_of.Given as goal

abbrev pub invariant-columns : goal.invariant-columns
invariant-columns l = l.places.items ≡ places_in l.names (take l.column-index l.columns)
