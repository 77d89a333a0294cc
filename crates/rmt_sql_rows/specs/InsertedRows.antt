-- Which rows an INSERT offers to a table, and why it offers none.
-- ClickHouse documentation: INSERT INTO; CSV; data types UInt64, Int64, String. Which columns may be named, and which
-- literals and fields are values, is this program's own.
use Rattle.std.specs.Prelude.{ℕ, ◌+◌, ◌==◌, ◌&&◌, pos, cond, nat_lt, nat_le, length, map, Bool, true, false, List, [], ◌∷◌, slice_get, Option, None, Some, Result, Ok, Err}
use Rattle.std.specs.Option.{option_or, option_map}
use Rattle.std.specs.List.{prefix_len}
use Rattle.std.specs.Str.{bytes_eq}
use Rattle.std.specs.Char.{is_ascii_digit}
use Rattle.rmt_values.specs.declared.value.Value.{Value}
use Rattle.rmt_values.specs.declared.value.Value.TheVariants.{UInt, Int, Text}
use Rattle.rmt_values.specs.declared.kind.Kind.{Kind}
use Rattle.rmt_values.specs.declared.kind.Kind.TheVariants as kinds
use Rattle.rmt_values.specs.declared.column.Column.{Column}
use Rattle.rmt_values.specs.Literals.{number_value, text_value}
use Rattle.rmt_values.specs.Schemas.{names_of, first_unknown, first_double}
use Rattle.rmt_sql_tokens.specs.Tokens.{value_of}
use Rattle.rmt_sql_rows.specs.declared.rows_error.RowsError.{RowsError}
use Rattle.rmt_sql_rows.specs.declared.rows_error.RowsError.TheVariants.{UnknownColumn, DoubleColumn}

-- 1 to 39 digits
abbrev pub is_number : List ℕ → Bool
is_number bytes = (nat_lt 0 (length bytes) && nat_le (length bytes) 39) && (prefix_len is_ascii_digit bytes == length bytes)

-- the value of digits in a column of a type of numbers
abbrev pub digits_value : Kind → Bool → List ℕ → Option Value
digits_value kind minus digits = cond (is_number digits) (number_value kind minus (value_of digits)) None

-- [ - ] digits
abbrev pub numeral_value : Kind → List ℕ → Option Value
numeral_value kind [] = None
numeral_value kind (b ∷ bs) = cond (b == 45) (digits_value kind true bs) (digits_value kind false (b ∷ bs))

-- the value of a field of data in a column of a type
abbrev pub field_value : Kind → List ℕ → Option Value
field_value kinds.UInt64 bytes = numeral_value kinds.UInt64 bytes
field_value kinds.Int64 bytes = numeral_value kinds.Int64 bytes
field_value kinds.Text bytes = text_value kinds.Text bytes

-- the value of a column that is left out
abbrev pub absent : Kind → Value
absent kinds.UInt64 = UInt 0
absent kinds.Int64 = Int (pos 0)
absent kinds.Text = Text []

-- ---- the columns of an INSERT

-- why these columns can't be named: the first that there isn't, then the first that is named twice
abbrev pub names_refusal : List Column → Option (List (List ℕ)) → Option RowsError
names_refusal columns None = None
names_refusal columns (Some named) =
    option_or (option_map (λ n. UnknownColumn n) (first_unknown (names_of columns) named)) (option_map (λ n. DoubleColumn n) (first_double named))

-- the place of a name among these, counted from i
abbrev pub name_from : ℕ → List (List ℕ) → List ℕ → Option ℕ
name_from i [] name = None
name_from i (n ∷ ns) name = cond (bytes_eq n name) (Some i) (name_from (i + 1) ns name)

-- for each column the place of its value in the rows of the INSERT, none where it is left out
abbrev pub places_in : List (List ℕ) → List Column → List (Option ℕ)
places_in named columns = map (λ c. name_from 0 named c.name) columns

-- the columns that an INSERT has values for: those named, or all in the schema's order
abbrev pub all_names : List Column → Option (List (List ℕ)) → List (List ℕ)
all_names columns None = names_of columns
all_names columns (Some named) = named

-- ---- rows

-- the value of a cell in a column of a type, where there is a cell
abbrev pub cell_value : {X : Type 0} → (Kind → X → Option Value) → Kind → Option X → Option Value
cell_value valued kind None = None
cell_value valued kind (Some x) = valued kind x

-- the value that the cell at a place has in a column of a type, if there is such a cell and value
abbrev pub cell_at : {X : Type 0} → (Kind → X → Option Value) → List X → Kind → ℕ → Option Value
cell_at valued cells kind i = cell_value valued kind (slice_get cells i)

-- the value of a column: that of the cell at its place, or the one of a column that is left out
abbrev pub value_at : (Kind → ℕ → Option Value) → Kind → Option ℕ → Option Value
value_at cell kind None = Some (absent kind)
value_at cell kind (Some i) = cell kind i

-- values with one more at the start, where all of them are values
abbrev pub with_value : Option Value → Option (List Value) → Option (List Value)
with_value None rest = None
with_value (Some v) None = None
with_value (Some v) (Some vs) = Some (v ∷ vs)

-- each column's value, where all of them have one
abbrev pub row_values : (Kind → ℕ → Option Value) → List Column → List (Option ℕ) → Option (List Value)
row_values cell [] places = Some []
row_values cell (c ∷ cs) [] = None
row_values cell (c ∷ cs) (p ∷ ps) = with_value (value_at cell c.kind p) (row_values cell cs ps)

-- the row of so many cells, if they are as many as columns are named and each is a value of its column
abbrev pub row_with : (Kind → ℕ → Option Value) → ℕ → List Column → List (Option ℕ) → ℕ → Option (List Value)
row_with cell count columns places named = cond (count == named) (row_values cell columns places) None

-- the row of these cells
abbrev pub row_of : {X : Type 0} → (Kind → X → Option Value) → List Column → List (Option ℕ) → ℕ → List X → Option (List Value)
row_of valued columns places named cells = row_with (cell_at valued cells) (length cells) columns places named

-- rows with one more at the start, or the number of the first that is none
abbrev pub next_row : ℕ → Option (List Value) → Result (List (List Value)) ℕ → Result (List (List Value)) ℕ
next_row n None rest = Err n
next_row n (Some row) (Ok rows) = Ok (row ∷ rows)
next_row n (Some row) (Err m) = Err m

-- what is made of the rows of the INSERT: all of them as rows, or the number of the first that is none, counted from n
abbrev pub rows_from : {X : Type 0} → (X → Option (List Value)) → ℕ → List X → Result (List (List Value)) ℕ
rows_from made n [] = Ok []
rows_from made n (x ∷ xs) = next_row n (made x) (rows_from made (n + 1) xs)
