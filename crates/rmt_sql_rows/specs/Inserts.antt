-- The rows of an INSERT: its tuples, or the records of its data, which the crate csv reads with its defaults and without a header.
-- ClickHouse documentation: formats, CSV.
use Rattle.std.specs.Prelude.{◌≡◌, ℕ, length, List, Option, Result, Ok, Err}
use Rattle.csv.specs.Reading.{default_config, strip_bom, AreRecords, Reached}
use Rattle.csv.specs.declared.parser.State.{State}
use Rattle.csv.specs.declared.parser.State.TheVariants as st
use Rattle.rmt_values.specs.declared.value.Value.{Value}
use Rattle.rmt_sql_rows.specs.declared.rows_error.RowsError.{RowsError}
use Rattle.rmt_sql_rows.specs.declared.rows_error.RowsError.TheVariants.{BadRow}
use Rattle.rmt_values.specs.declared.column.Column.{Column}
use Rattle.rmt_statements.specs.declared.offered.Offered.{Offered}
use Rattle.rmt_statements.specs.declared.offered.Offered.TheVariants.{Values, Csv}
use Rattle.rmt_sql_rows.specs.InsertedRows.{rows_from, row_of, places_in, field_value}
use Rattle.rmt_values.specs.Literals.{literal_value}

-- the error names the first row that is none
abbrev pub IsBadRow : RowsError → Result (List (List Value)) ℕ → Type 0
IsBadRow (BadRow n) made = made ≡ Err n
IsBadRow _ made = ⊥

-- each record of the data is a row, and these are the rows
abbrev pub AreCsvRows : (List (List ℕ) → Option (List Value)) → List ℕ → List (List Value) → Type 0
AreCsvRows made bytes rows = (records : List (List (List ℕ))) × AreRecords default_config st.StartRecord (strip_bom bytes) records × (rows_from made 1 records ≡ Ok rows)

-- of the records from the first on, the last one read is the first that is no row
abbrev pub IsBadCsvRow : (List (List ℕ) → Option (List Value)) → List ℕ → RowsError → Type 0
IsBadCsvRow made bytes e =
    (records : List (List (List ℕ))) × (s : State) × (rest : List ℕ) × Reached default_config st.StartRecord (strip_bom bytes) records s rest × IsBadRow e (rows_from made 1 records)

-- the rows of an INSERT for these columns named
abbrev pub AreInsertedRows : List Column → List (List ℕ) → Offered → List (List Value) → Type 0
AreInsertedRows columns named (Values tuples) rows = rows_from (row_of literal_value columns (places_in named columns) (length named)) 1 tuples ≡ Ok rows
AreInsertedRows columns named (Csv bytes) rows = AreCsvRows (row_of field_value columns (places_in named columns) (length named)) bytes rows

-- the first row of the INSERT that is none
abbrev pub IsBadInsertRow : List Column → List (List ℕ) → Offered → RowsError → Type 0
IsBadInsertRow columns named (Values tuples) e = IsBadRow e (rows_from (row_of literal_value columns (places_in named columns) (length named)) 1 tuples)
IsBadInsertRow columns named (Csv bytes) e = IsBadCsvRow (row_of field_value columns (places_in named columns) (length named)) bytes e
