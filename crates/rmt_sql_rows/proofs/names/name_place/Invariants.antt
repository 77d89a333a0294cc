use Rattle.std.proofs.Common.{◌≡◌, drop}
use Rattle.rmt_sql_rows.specs.InsertedRows.{name_from}
use Rattle.rmt_sql_rows.proofs.names.name_place.Given as goal

abbrev pub invariant-names : goal.invariant-names
invariant-names l = name_from 0 l.names l.name ≡ name_from l.i (drop l.i l.names) l.name
