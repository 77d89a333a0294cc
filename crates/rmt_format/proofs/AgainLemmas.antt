-- Rows are decoded from their bytes.
use Rattle.std.proofs.Common.{◌≡◌, ℕ, zero, suc, ◌+◌, ◌-◌, ◌*◌, ◌≤◌, min, true, List, [], ◌∷◌, ◌++◌, length, slice_get, take, drop, Option, Some, refl, sym, ap, ◌∙◌, append_assoc, append-nil, arith}
use Rattle.std.specs.List.{AllByRecursion, flat_map}
use Rattle.std.specs.Option.{option_to_list}
use Rattle.std.proofs.lemmas.List.{length-take, length-drop, take-append-drop}
use Rattle.rmt_values.specs.declared.value.Value.{Value}
use Rattle.rmt_values.specs.declared.value.Value.TheVariants.{UInt, Int, Text}
use Rattle.rmt_values.specs.declared.column.Column.{Column}
use Rattle.rmt_values.specs.declared.kind.Kind.{Kind}
use Rattle.rmt_values.specs.Rows.{fits, kind_of}
use Rattle.rmt_bytes.specs.Encoding.{IsInRange, value_bytes}
use Rattle.rmt_bytes.specs.Decoding.{decode_kind, decode_value}
use Rattle.rmt_bytes.proofs.Codes.{◌>>=◌}
use Rattle.rmt_bytes.proofs.ValueCodes.{typed_code}
use Rattle.rmt_columns.specs.Columns.{ColumnView}
use Rattle.rmt_columns.specs.RowsByColumn.{AreOfKind, no_values}
use Rattle.rmt_granules.specs.Places.{cells_of, columns_from}
use Rattle.rmt_granules.proofs.ColumnLemmas.{divided}
use Rattle.rmt_format.specs.PartBytes.{AreInRange, column_of, columns_bytes, granules_bytes}
use Rattle.rmt_format.specs.PartDecoding.{decode_cells, decode_columns, decode_granules}
use Rattle.rmt_format.proofs.RangeLemmas.{all-take, all-drop}

-- ---- one column

own-kind : (v : Value) (rest : List ℕ) → IsInRange v → decode_value (kind_of v) (value_bytes v ++ rest) ≡ Some (v, rest)
unfolding decode_kind
own-kind (UInt n) rest h = typed_code.again (UInt n) rest h
own-kind (Int z) rest h = typed_code.again (Int z) rest h
own-kind (Text s) rest h = typed_code.again (Text s) rest h

value-again : (kind : Kind) (v : Value) (rest : List ℕ) → kind_of v ≡ kind → IsInRange v → decode_value kind (value_bytes v ++ rest) ≡ Some (v, rest)
value-again kind v rest e h = ap (λ (k : Kind). decode_value k (value_bytes v ++ rest)) (sym e) ∙ own-kind v rest h

with-values : (c : ColumnView) (us vs : List Value) (rest : List ℕ) → us ≡ vs → ◌≡◌ {A = Option (ColumnView × List ℕ)} (Some (record c { values = us }, rest)) (Some (record c { values = vs }, rest))
with-values c us vs rest e = ap (λ (l : List Value). Some (record c { values = l }, rest)) e

-- the values of a column are decoded from their bytes, whatever the rest is
cells-again : (c : ColumnView) (vs : List Value) (rest : List ℕ) → AreOfKind c.kind vs → AllByRecursion IsInRange vs
    → decode_cells c (length vs) (flat_map value_bytes vs ++ rest) ≡ Some (record c { values = c.values ++ vs }, rest)
cells-again c [] rest t h = with-values c c.values (c.values ++ []) rest (sym (append-nil c.values))
cells-again c (v ∷ vs) rest t h =
    ap (decode_cells c (suc (length vs))) (append_assoc (value_bytes v) (flat_map value_bytes vs) rest)
    ∙ ap (λ (o : Option (Value × List ℕ)). o >>= λ w. decode_cells (record c { values = c.values ++ w.0 ∷ [] }) (length vs) w.1) (value-again c.kind v (flat_map value_bytes vs ++ rest) t.0 h.0)
    ∙ cells-again (record c { values = c.values ++ v ∷ [] }) vs rest t.1 h.1
    ∙ with-values c ((c.values ++ v ∷ []) ++ vs) (c.values ++ v ∷ vs) rest (append_assoc c.values (v ∷ []) vs)

-- ---- cells of rows

column-cells : (at : ℕ) (rows : List (List Value)) → column_of at rows ≡ cells_of at rows
column-cells at [] = refl
column-cells at (row ∷ rows) = ap (λ (l : List Value). option_to_list (slice_get row at) ++ l) (column-cells at rows)

cells-joined : (at : ℕ) (before here : List (List Value)) → cells_of at before ++ cells_of at here ≡ cells_of at (before ++ here)
cells-joined at [] here = refl
cells-joined at (row ∷ rows) here =
    append_assoc (option_to_list (slice_get row at)) (cells_of at rows) (cells_of at here)
    ∙ ap (λ (l : List Value). option_to_list (slice_get row at) ++ l) (cells-joined at rows here)

cells-in_range : (at : ℕ) (rows : List (List Value)) → AreInRange rows → AllByRecursion IsInRange (cells_of at rows)
cells-in_range at [] h = tt
cells-in_range at (row ∷ rows) h = one row at (cells_of at rows) h.0 (cells-in_range at rows h.1)
  where
    one : (row : List Value) (at : ℕ) (more : List Value) → AllByRecursion IsInRange row → AllByRecursion IsInRange more → AllByRecursion IsInRange (option_to_list (slice_get row at) ++ more)
    one [] at more h k = k
    one (v ∷ vs) zero more h k = (h.0, k)
    one (v ∷ vs) (suc at) more h k = one vs at more h.1 k

-- ---- all columns

columns-again : (at : ℕ) (cs : List Column) (before here : List (List Value)) (rest : List ℕ) → AllByRecursion (λ row. fits cs (drop at row) ≡ true) here → AreInRange here
    → decode_columns (columns_from at cs before) (length here) (columns_bytes at (length cs) here ++ rest) ≡ Some (columns_from at cs (before ++ here), rest)
columns-again at [] before here rest fit held = refl
columns-again at (c ∷ cs) before here rest fit held =
    let d = divided at c cs here fit in
    let vs = cells_of at here in
    let old : ColumnView = record { kind = c.kind; values = cells_of at before } in
    let later = columns_bytes (suc at) (length cs) here ++ rest in
    let bytes : columns_bytes at (suc (length cs)) here ++ rest ≡ flat_map value_bytes (cells_of at here) ++ (columns_bytes (suc at) (length cs) here ++ rest) =
    ap (λ (l : List Value). (flat_map value_bytes l ++ columns_bytes (suc at) (length cs) here) ++ rest) (column-cells at here)
    ∙ append_assoc (flat_map value_bytes vs) (columns_bytes (suc at) (length cs) here) rest in
    let first : decode_cells old (length here) (flat_map value_bytes (cells_of at here) ++ (columns_bytes (suc at) (length cs) here ++ rest)) ≡ Some (record { kind = c.kind; values = cells_of at (before ++ here) }, columns_bytes (suc at) (length cs) here ++ rest) =
    ap (λ (n : ℕ). decode_cells old n (flat_map value_bytes vs ++ later)) (sym d.even)
    ∙ cells-again old vs later d.typed (cells-in_range at here held)
    ∙ with-values old (cells_of at before ++ vs) (cells_of at (before ++ here)) later (cells-joined at before here) in
    ap (decode_columns (columns_from at (c ∷ cs) before) (length here)) bytes
    ∙ ap (λ (o : Option (ColumnView × List ℕ)). o >>= λ x. decode_columns (columns_from (suc at) cs before) (length here) x.1 >>= λ y. Some (x.0 ∷ y.0, y.1)) first
    ∙ ap (λ (o : Option (List ColumnView × List ℕ)). o >>= λ y. Some (record { kind = c.kind; values = cells_of at (before ++ here) } ∷ y.0, y.1)) (columns-again (suc at) cs before here rest d.fit held)

-- ---- granules

granules-from : (columns : List Column) (size granules : ℕ) (before rows : List (List Value)) (rest : List ℕ)
    → AllByRecursion (λ row. fits columns row ≡ true) rows → AreInRange rows → length rows ≤ granules * size
    → decode_granules (columns_from 0 columns before) size granules (length rows) (granules_bytes (length columns) size granules rows ++ rest) ≡ Some (columns_from 0 columns (before ++ rows), rest)
granules-from columns size zero before [] rest fit held enough = ap (λ (l : List (List Value)). Some (columns_from 0 columns l, rest)) (sym (append-nil before))
granules-from columns size zero before (row ∷ rows) rest fit held enough = absurd (omega (arith, enough))
granules-from columns size (suc granules) before rows rest fit held enough =
    let here = take size rows in
    let others = drop size rows in
    let k = length columns in
    let later = granules_bytes k size granules others ++ rest in
    let count : min (length rows) size ≡ length (take size rows) = omega (arith, length-take size rows) in
    let left : length rows - min (length rows) size ≡ length (drop size rows) = omega (arith, length-drop size rows) in
    let few : length (drop size rows) ≤ granules * size = let more : suc granules * size ≡ granules * size + size = omega arith in omega (arith, more, enough, left) in
    let first : decode_columns (columns_from 0 columns before) (min (length rows) size) ((columns_bytes 0 (length columns) (take size rows) ++ granules_bytes (length columns) size granules (drop size rows)) ++ rest)
    ≡ Some (columns_from 0 columns (before ++ take size rows), granules_bytes (length columns) size granules (drop size rows) ++ rest) =
    ap (decode_columns (columns_from 0 columns before) (min (length rows) size)) (append_assoc (columns_bytes 0 k here) (granules_bytes k size granules others) rest)
    ∙ ap (λ (n : ℕ). decode_columns (columns_from 0 columns before) n (columns_bytes 0 k here ++ later)) count
    ∙ columns-again 0 columns before here later (all-take (λ row. fits columns row ≡ true) size rows fit) (all-take (λ row. AllByRecursion IsInRange row) size rows held) in
    ap (λ (o : Option (List ColumnView × List ℕ)). o >>= λ x. decode_granules x.0 size granules (length rows - min (length rows) size) x.1) first
    ∙ ap (λ (n : ℕ). decode_granules (columns_from 0 columns (before ++ here)) size granules n later) left
    ∙ granules-from columns size granules (before ++ here) others rest (all-drop (λ row. fits columns row ≡ true) size rows fit) (all-drop (λ row. AllByRecursion IsInRange row) size rows held) few
    ∙ ap (λ (l : List (List Value)). Some (columns_from 0 columns l, rest)) (append_assoc before here others ∙ ap (λ (l : List (List Value)). before ++ l) (take-append-drop size rows))

none-from : (at : ℕ) (cs : List Column) → no_values cs ≡ columns_from at cs []
none-from at [] = refl
none-from at (c ∷ cs) = ap (λ (l : List ColumnView). record { kind = c.kind; values = [] } ∷ l) (none-from (suc at) cs)

-- the columns of a part are decoded from their bytes, whatever the rest is
pub granules-again : (columns : List Column) (size granules : ℕ) (rows : List (List Value)) (rest : List ℕ)
    → AllByRecursion (λ row. fits columns row ≡ true) rows → AreInRange rows → length rows ≤ granules * size
    → decode_granules (no_values columns) size granules (length rows) (granules_bytes (length columns) size granules rows ++ rest) ≡ Some (columns_from 0 columns rows, rest)
granules-again columns size granules rows rest fit held enough =
    ap (λ (l : List ColumnView). decode_granules l size granules (length rows) (granules_bytes (length columns) size granules rows ++ rest)) (none-from 0 columns)
    ∙ granules-from columns size granules [] rows rest fit held enough
