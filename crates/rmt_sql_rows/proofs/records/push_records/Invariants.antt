use Rattle.std.proofs.Common.{◌≡◌, ℕ, List, length, Ok, []}
use Rattle.rmt_columns.specs.RowsByColumn.{kinds_in}
use Rattle.rmt_sql_rows.specs.InsertedRows.{field_value, row_of, rows_from}
use Rattle.rmt_sql_rows.proofs.Steps.{HasRead}
use Rattle.rmt_sql_rows.proofs.records.push_records.Given as goal

abbrev pub invariant-records : goal.invariant-records
invariant-records l =
    (records : List (List (List ℕ))) × HasRead l.bytes records l.reader
    × (rows_from (row_of field_value l.columns l.places l.named) 1 records ≡ Ok l.builder.rows)
    × (l.builder.begun ≡ []) × (l.builder.kinds ≡ kinds_in l.columns)
    × (length records ≡ l.i) × (length l.builder.rows ≡ l.i)
