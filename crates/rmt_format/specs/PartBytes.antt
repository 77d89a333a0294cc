-- The bytes of parts, version 1.
-- FIPS 180-4, section 6.2: SHA-256. Which bytes a part has is this program's own. Numbers have their most significant
-- byte first.
use Rattle.std.specs.Prelude.{ℕ, zero, suc, ◌<◌, ◌^◌, List, [], ◌∷◌, ◌++◌, length, take, drop, slice_get, codes}
use Rattle.std.specs.Int.{w16, w32, to_be_bytes}
use Rattle.std.specs.List.{AllByRecursion, flat_map}
use Rattle.std.specs.Option.{option_to_list}
use Rattle.sha2.specs.Sha256.{sha256}
use Rattle.rmt_values.specs.declared.value.Value.{Value}
use Rattle.rmt_values.specs.declared.column.Column.{Column}
use Rattle.rmt_values.specs.Rows.{Shape}
use Rattle.rmt_bytes.specs.Encoding.{IsInRange, kind_byte, list_bytes, text_bytes, value_bytes}
use Rattle.rmt_granules.specs.Granules.{PartView}
use Rattle.rmt_granules.specs.MergedData.{IsDataOf}

-- ---- which parts have bytes

-- a part of the schema, with a value of its type for each column in each of fewer than 2^32 rows
pub record HasPartBytes (shape : Shape) (part : PartView) : Type 0 where
  pub of_schema : IsDataOf shape part
  pub few_rows : length part.rows < 2 ^ 32

-- each value is one that its type can hold
abbrev pub AreInRange : List (List Value) → Type 0
AreInRange rows = AllByRecursion (λ row. AllByRecursion IsInRange row) rows

-- ---- the head

-- a column: its type, and its name after the name's length
abbrev pub column_bytes : Column → List ℕ
column_bytes column = kind_byte column.kind ∷ text_bytes column.name

-- what all parts of a schema begin with: a word that tells the version, the columns, the places of the key's columns,
-- and the rows of a granule
unfoldable pub head_bytes : Shape → List ℕ
head_bytes shape =
    codes "RMTPART1" ++ list_bytes column_bytes shape.columns ++ list_bytes (to_be_bytes w16) shape.key
    ++ to_be_bytes w32 shape.granularity

-- ---- rows and marks

-- how many rows and granules there are
abbrev pub count_bytes : PartView → List ℕ
count_bytes part = to_be_bytes w32 (length part.rows) ++ to_be_bytes w32 (length part.marks)

-- the values of rows in a column
abbrev pub column_of : ℕ → List (List Value) → List Value
column_of c rows = flat_map (λ row. option_to_list (slice_get row c)) rows

-- n columns of rows, from column c on, each with its values one after the other
abbrev pub columns_bytes : ℕ → ℕ → List (List Value) → List ℕ
columns_bytes c zero rows = []
columns_bytes c (suc n) rows = flat_map value_bytes (column_of c rows) ++ columns_bytes (suc c) n rows

-- the rows of so many granules, one granule of `size` rows after the other, each column by column
abbrev pub granules_bytes : ℕ → ℕ → ℕ → List (List Value) → List ℕ
granules_bytes columns size zero rows = []
granules_bytes columns size (suc granules) rows =
    columns_bytes 0 columns (take size rows) ++ granules_bytes columns size granules (drop size rows)

-- the rows of a part
abbrev pub rows_bytes : PartView → List ℕ
rows_bytes part = granules_bytes (length part.kinds) part.granularity (length part.marks) part.rows

-- the values of one row
abbrev pub row_bytes : List Value → List ℕ
row_bytes row = flat_map value_bytes row

-- ---- the whole

-- what a part has after the head: the numbers of rows and granules, the rows, and the marks
unfoldable pub data_bytes : PartView → List ℕ
data_bytes part = count_bytes part ++ rows_bytes part ++ flat_map row_bytes part.marks

-- the bytes of a part of a schema that its digest is of
unfoldable pub part_body : Shape → PartView → List ℕ
part_body shape part = head_bytes shape ++ data_bytes part

-- the bytes of a part of a schema: those, and their SHA-256
unfoldable pub part_bytes : Shape → PartView → List ℕ
part_bytes shape part = part_body shape part ++ sha256 (part_body shape part)
