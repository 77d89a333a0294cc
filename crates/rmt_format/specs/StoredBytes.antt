-- Values as bytes where they lie in columns. No public clause cites this module.
use Rattle.std.specs.Prelude.{◌≡◌, ℕ, ◌-◌, true, List, take, drop}
use Rattle.std.specs.List.{flat_map, AllByRecursion}
use Rattle.rmt_values.specs.declared.value.Value.{Value}
use Rattle.rmt_values.specs.Rows.{is_value}
use Rattle.rmt_bytes.specs.Encoding.{value_bytes, IsInRange}
use Rattle.rmt_columns.specs.Columns.{ColumnView}

-- the values of a column from row `first` to before row `past`
abbrev pub cells_bytes : ℕ → ℕ → ColumnView → List ℕ
cells_bytes first past column = flat_map value_bytes (take (past - first) (drop first column.values))

-- if it is a value of a column, it is in range
abbrev pub IsHeld : Value → Type 0
IsHeld value = is_value value ≡ true → IsInRange value

-- those values of a column are
abbrev pub CellsAreHeld : ℕ → ℕ → ColumnView → Type 0
CellsAreHeld first past column = AllByRecursion IsHeld (take (past - first) (drop first column.values))

-- the values of each row are
abbrev pub RowsAreHeld : List (List Value) → Type 0
RowsAreHeld rows = AllByRecursion (λ row. AllByRecursion IsHeld row) rows
