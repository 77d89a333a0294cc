use Rattle.std.proofs.Common.{◌≡◌, ◌+◌, [], drop}
use Rattle.rmt_columns.specs.RowsByColumn.{kinds_in}
use Rattle.rmt_sql_rows.specs.InsertedRows.{row_of, rows_from}
use Rattle.rmt_values.specs.Literals.{literal_value}
use Rattle.rmt_sql_rows.proofs.Parts.{after_rows}
use Rattle.rmt_sql_rows.proofs.tuples.rows_of_tuples.Given as goal

abbrev pub invariant-tuples : goal.invariant-tuples
invariant-tuples l =
    (l.builder.begun ≡ []) × (l.builder.kinds ≡ kinds_in l.columns)
    × (rows_from (row_of literal_value l.columns l.places l.named) 1 l.tuples ≡ after_rows l.builder.rows (rows_from (row_of literal_value l.columns l.places l.named) (l.i + 1) (drop l.i l.tuples)))
