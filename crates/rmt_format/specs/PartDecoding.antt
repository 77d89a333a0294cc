-- Decoding parts from left to right, as in `Decoding` of `rmt_bytes`. Only the words for results are cited by public
-- clauses.
use Rattle.std.specs.Prelude.{◌≡◌, ℕ, zero, suc, ◌-◌, cond, min, nat_lt, List, [], ◌∷◌, ◌++◌}
use Rattle.std.specs.Int.{w32}
use Rattle.std.specs.Option.{option_and_then}
use Rattle.std.specs.declared.option.Option.{Option}
use Rattle.std.specs.declared.option.Option.TheVariants.{Some, None}
use Rattle.std.specs.declared.result.Result.{Result}
use Rattle.std.specs.declared.result.Result.TheVariants.{Ok, Err}
use Rattle.rmt_values.specs.declared.value.Value.{Value}
use Rattle.rmt_values.specs.declared.column.Column.{Column}
use Rattle.rmt_bytes.specs.declared.decode_error.DecodeError.{DecodeError as ReadError}
use Rattle.rmt_bytes.specs.declared.decode_error.DecodeError.TheVariants as reads
use Rattle.rmt_bytes.specs.Decoding.{decode_number, decode_value, mapped}
use Rattle.rmt_columns.specs.Columns.{ColumnView}
use Rattle.rmt_columns.specs.RowsByColumn.{rows_of, no_values}
use Rattle.rmt_granules.specs.Granules.{PartView}
use Rattle.rmt_format.specs.declared.decode_error.DecodeError.{DecodeError}
use Rattle.rmt_format.specs.declared.decode_error.DecodeError.TheVariants.{NotAPart, Memory}

-- ---- results

-- the result is this part, or memory ran out
abbrev pub IsDecodedAs : PartView → Result PartView DecodeError → Type 0
IsDecodedAs part (Ok decoded) = decoded ≡ part
IsDecodedAs part (Err Memory) = Unit {0}
IsDecodedAs part (Err NotAPart) = ⊥

-- the result, of which contracts see this, is `a`, or memory ran out
abbrev pub IsReadAs : {X A : Type 0} → (X → A) → A → Result X ReadError → Type 0
IsReadAs view a (Ok x) = view x ≡ a
IsReadAs view a (Err reads.Memory) = Unit {0}
IsReadAs view a (Err reads.Malformed) = ⊥

-- ---- rows

-- the column with so many values more, which these bytes begin with
abbrev pub decode_cells : ColumnView → ℕ → List ℕ → Option (ColumnView × List ℕ)
decode_cells c zero bytes = Some (c, bytes)
decode_cells c (suc n) bytes =
    option_and_then (λ v. decode_cells (record c { values = c.values ++ v.0 ∷ [] }) n v.1) (decode_value c.kind bytes)

-- the columns, each with so many values more
abbrev pub decode_columns : List ColumnView → ℕ → List ℕ → Option (List ColumnView × List ℕ)
decode_columns [] count bytes = Some ([], bytes)
decode_columns (c ∷ cs) count bytes =
    option_and_then
    (λ x. option_and_then (λ y. Some (x.0 ∷ y.0, y.1)) (decode_columns cs count x.1))
    (decode_cells c count bytes)

-- the columns, with the values of so many granules of `size` rows, of which the last one has what is left
abbrev pub decode_granules : List ColumnView → ℕ → ℕ → ℕ → List ℕ → Option (List ColumnView × List ℕ)
decode_granules columns size zero zero bytes = Some (columns, bytes)
decode_granules columns size zero (suc left) bytes = None
decode_granules columns size (suc granules) left bytes =
    option_and_then
    (λ x. decode_granules x.0 size granules (left - min left size) x.1)
    (decode_columns columns (min left size) bytes)

-- the rows of so many granules, and so many rows in all
abbrev pub decode_all : List Column → ℕ → ℕ → ℕ → List ℕ → Option (List (List Value) × List ℕ)
decode_all columns size granules count bytes = mapped (rows_of count) (decode_granules (no_values columns) size granules count bytes)

-- the rows of a part, from their number on; there are no more granules than rows
unfoldable pub decode_rows : List Column → ℕ → List ℕ → Option (List (List Value) × List ℕ)
decode_rows columns size bytes =
    option_and_then
    (λ rows. option_and_then
    (λ granules. cond (nat_lt rows.0 granules.0) None (decode_all columns size granules.0 rows.0 granules.1))
    (decode_number w32 rows.1))
    (decode_number w32 bytes)
