-- Rows held by column: the rows that columns make, and a row that is being put there.
-- ClickHouse documentation: A practical introduction to primary indexes in ClickHouse (data is stored by columns).
use Rattle.std.specs.Prelude.{◌≡◌, ℕ, zero, suc, ◌+◌, List, [], ◌∷◌, ◌++◌, map, length, slice_get}
use Rattle.std.specs.Option.{option_to_list, option_and_then}
use Rattle.std.specs.declared.option.Option.{Option}
use Rattle.std.specs.declared.cmp.Ordering.{Ordering}
use Rattle.std.specs.Cmp.Lexicographic.{slice_cmp}
use Rattle.rmt_values.specs.declared.value.Value.{Value}
use Rattle.rmt_values.specs.declared.column.Column.{Column}
use Rattle.rmt_values.specs.declared.kind.Kind.{Kind}
use Rattle.rmt_values.specs.Rows.{cell_cmp, kind_of}
use Rattle.rmt_columns.specs.Columns.{ColumnView}

-- rows, each with a value for each column, and the types of the columns
pub record RowsView : Type 0 where
  pub kinds : List Kind
  pub rows : List (List Value)

-- the same with the first values of one more row
pub record BegunView : Type 0 where
  pub kinds : List Kind
  pub rows : List (List Value)
  pub begun : List Value

-- the types of a schema's columns
abbrev pub kinds_in : List Column → List Kind
kinds_in columns = map (λ c. c.kind) columns

-- each value before the rest of its row
abbrev pub beside : List Value → List (List Value) → List (List Value)
beside [] rows = []
beside (v ∷ vs) [] = []
beside (v ∷ vs) (r ∷ rs) = (v ∷ r) ∷ beside vs rs

-- so many rows that have no value
abbrev pub blank_rows : ℕ → List (List Value)
blank_rows zero = []
blank_rows (suc n) = [] ∷ blank_rows n

-- the first n rows of columns: the i-th has the i-th value of each column
abbrev pub rows_of : ℕ → List ColumnView → List (List Value)
rows_of n [] = blank_rows n
rows_of n (c ∷ cs) = beside c.values (rows_of n cs)

-- the types of the columns
abbrev pub kinds_of : List ColumnView → List Kind
kinds_of columns = map (λ c. c.kind) columns

-- each column has n values
abbrev pub AreLong : ℕ → List ColumnView → Type 0
AreLong n [] = Unit {0}
AreLong n (c ∷ cs) = (length c.values ≡ n) × AreLong n cs

-- each value is of this type
abbrev pub AreOfKind : Kind → List Value → Type 0
AreOfKind kind [] = Unit {0}
AreOfKind kind (v ∷ vs) = (kind_of v ≡ kind) × AreOfKind kind vs

-- the values of each column are of its type
abbrev pub AreTyped : List ColumnView → Type 0
AreTyped [] = Unit {0}
AreTyped (c ∷ cs) = AreOfKind c.kind c.values × AreTyped cs

-- each row has a value of each of these types
abbrev pub HaveKinds : List Kind → List (List Value) → Type 0
HaveKinds kinds [] = Unit {0}
HaveKinds kinds (row ∷ rows) = (map kind_of row ≡ kinds) × HaveKinds kinds rows

-- ---- what only private functions cite

-- the rows that columns make
abbrev pub rows_held : ℕ → List ColumnView → RowsView
rows_held n columns = record { kinds = kinds_of columns; rows = rows_of n columns }

-- each of the first columns has one value more than n, and each of the others n
abbrev pub AreBegun : ℕ → ℕ → List ColumnView → Type 0
AreBegun n begun [] = begun ≡ 0
AreBegun n zero (c ∷ cs) = (length c.values ≡ n) × AreBegun n zero cs
AreBegun n (suc begun) (c ∷ cs) = (length c.values ≡ n + 1) × AreBegun n begun cs

-- the n-th value of each of the first columns
abbrev pub begun_of : ℕ → ℕ → List ColumnView → List Value
begun_of n zero cs = []
begun_of n (suc begun) [] = []
begun_of n (suc begun) (c ∷ cs) = option_to_list (slice_get c.values n) ++ begun_of n begun cs

-- the rows that columns make, and the row that is begun in the first of them
abbrev pub rows_begun : ℕ → ℕ → List ColumnView → BegunView
rows_begun n begun columns = record { kinds = kinds_of columns; rows = rows_of n columns; begun = begun_of n begun columns }

-- columns with no values
abbrev pub no_values : List Column → List ColumnView
no_values columns = map (λ c. record { kind = c.kind; values = [] }) columns

-- the value of a column in a row, where it is there
abbrev pub cell_in : List ColumnView → ℕ → ℕ → Option Value
cell_in columns i at = option_and_then (λ c. slice_get c.values i) (slice_get columns at)

-- the order of a row of some columns and of a row of others by the columns of a key
abbrev pub cells_cmp : List ℕ → List ColumnView → ℕ → List ColumnView → ℕ → Ordering
cells_cmp key a i b j = slice_cmp cell_cmp (map (λ c. cell_in a i c) key) (map (λ c. cell_in b j c) key)

-- the i-th value of each column that has one
abbrev pub row_at : ℕ → List ColumnView → List Value
row_at i [] = []
row_at i (c ∷ cs) = option_to_list (slice_get c.values i) ++ row_at i cs
