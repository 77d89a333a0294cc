-- Values in range, in columns and in rows.
use Rattle.std.proofs.Common.{◌≡◌, ℕ, zero, suc, ◌+◌, ◌-◌, ◌*◌, ◌<◌, ◌≤◌, min, Some, true, List, [], ◌∷◌, length, take, drop, get_or, slice_get, sym, ap, subst, ◌∙◌, arith}
use Rattle.std.proofs.lemmas.Bool.{and_parts}
use Rattle.std.proofs.lemmas.List.{take_all}
use Rattle.std.specs.List.{All, AllByRecursion}
use Rattle.std.proofs.lemmas.List.Elements.{recursion_from_All}
use Rattle.std.specs.Option.{option_to_list}
use Rattle.rmt_values.specs.declared.value.Value.{Value}
use Rattle.rmt_values.specs.declared.column.Column.{Column}
use Rattle.rmt_values.specs.Rows.{fits, is_of, is_value, same_kind, kind_of}
use Rattle.rmt_bytes.specs.Encoding.{IsInRange}
use Rattle.rmt_columns.specs.Columns.{ColumnView}
use Rattle.rmt_columns.specs.RowsByColumn.{beside, blank_rows, rows_of, AreLong}
use Rattle.rmt_granules.specs.Granules.{PartView, granule_of}
use Rattle.rmt_columns.proofs.RowsLemmas.{length-rows_of}
use Rattle.rmt_format.specs.PartBytes.{AreInRange}
use Rattle.rmt_format.specs.StoredBytes.{IsHeld, CellsAreHeld, RowsAreHeld}
use Rattle.rmt_format.proofs.GranuleLemmas.{LieIn, granule-rows, granule-pair, slice_get-drop, window-beside, end-is}

-- ---- lists

pub all-take : {A : Type 0} (P : A → Type 0) (n : ℕ) (xs : List A) → AllByRecursion P xs → AllByRecursion P (take n xs)
all-take P zero xs h = tt
all-take P (suc n) [] h = tt
all-take P (suc n) (x ∷ xs) h = (h.0, all-take P n xs h.1)

pub all-drop : {A : Type 0} (P : A → Type 0) (n : ℕ) (xs : List A) → AllByRecursion P xs → AllByRecursion P (drop n xs)
all-drop P zero xs h = h
all-drop P (suc n) [] h = tt
all-drop P (suc n) (x ∷ xs) h = all-drop P n xs h.1

-- what holds of the first ones and of the next ones holds of all of them
all-take-more : {A : Type 0} (P : A → Type 0) (m n : ℕ) (xs : List A) → AllByRecursion P (take m xs) → AllByRecursion P (take n (drop m xs)) → AllByRecursion P (take (m + n) xs)
all-take-more P zero n xs first next = subst (λ k. AllByRecursion P (take k xs)) (let e : n ≡ 0 + n = omega arith in e) next
all-take-more P (suc m) n [] first next = subst (λ k. AllByRecursion P (take k [])) (let e : suc (m + n) ≡ suc m + n = omega arith in e) tt
all-take-more P (suc m) n (x ∷ xs) first next =
    subst (λ k. AllByRecursion P (take k (x ∷ xs))) (let e : suc (m + n) ≡ suc m + n = omega arith in e) (first.0, all-take-more P m n xs first.1 next)

-- what holds of the first ones and of the element after them holds of one more
pub all-take-at : {A : Type 0} (P : A → Type 0) (i : ℕ) (xs : List A) (x : A) → i < length xs → x ≡ get_or xs i x → AllByRecursion P (take i xs) → P x → AllByRecursion P (take (i + 1) xs)
all-take-at P i xs x lt e first here = subst (λ k. AllByRecursion P (take k xs)) (let n : suc i ≡ i + 1 = omega arith in n) (go i xs lt e first) where
  go : (i : ℕ) (xs : List _) → i < length xs → x ≡ get_or xs i x → AllByRecursion P (take i xs) → AllByRecursion P (take (suc i) xs)
  go i [] lt e first = absurd (omega (arith, lt))
  go zero (y ∷ ys) lt e first = (subst P e here, tt)
  go (suc i) (y ∷ ys) lt e first = (first.0, go i ys (omega (arith, lt)) e first.1)

-- ---- cells of a column

-- so are those up to the next one
pub held-next : (first i : ℕ) (c : ColumnView) → first ≤ i → CellsAreHeld first i c → AllByRecursion IsHeld (option_to_list (slice_get c.values i)) → CellsAreHeld first (i + 1) c
held-next first i c h held here =
    let n : suc (i - first) ≡ i + 1 - first = omega (arith, h) in
    let at : first + (i - first) ≡ i = omega (arith, h) in
    subst (λ k. AllByRecursion IsHeld (take k (drop first c.values))) n (go (i - first) (drop first c.values) held
    (subst (λ o. AllByRecursion IsHeld (option_to_list o)) (sym (slice_get-drop first (i - first) c.values ∙ ap (slice_get c.values) at)) here)) where
      go : (k : ℕ) (vs : List Value) → AllByRecursion IsHeld (take k vs) → AllByRecursion IsHeld (option_to_list (slice_get vs k)) → AllByRecursion IsHeld (take (suc k) vs)
      go zero [] held here = tt
      go zero (v ∷ vs) held here = here
      go (suc k) [] held here = tt
      go (suc k) (v ∷ vs) held here = (held.0, go k vs held.1 here)

pub held-end : (first i past : ℕ) (c : ColumnView) → first ≤ i → (first ≤ past → i ≤ past) → (past ≤ first → i ≤ first) → past ≤ i → CellsAreHeld first i c → CellsAreHeld first past c
held-end first i past c low high none h held = subst (λ n. AllByRecursion IsHeld (take n (drop first c.values))) (end-is first i past low high none h) held

-- ---- rows of columns

held-beside : (vs : List Value) (rs : List (List Value)) → AllByRecursion IsHeld vs → RowsAreHeld rs → RowsAreHeld (beside vs rs)
held-beside [] rs h k = tt
held-beside (v ∷ vs) [] h k = tt
held-beside (v ∷ vs) (r ∷ rs) h k = ((h.0, k.0), held-beside vs rs h.1 k.1)

held-blank : (n : ℕ) → RowsAreHeld (blank_rows n)
held-blank zero = tt
held-blank (suc n) = (tt, held-blank n)

held-rows : (cs : List ColumnView) (n first past : ℕ) → AreLong n cs → AllByRecursion (CellsAreHeld first past) cs → RowsAreHeld (take (past - first) (drop first (rows_of n cs)))
held-rows [] n first past long held =
    all-take (λ row. AllByRecursion IsHeld row) (past - first) (drop first (blank_rows n)) (all-drop (λ row. AllByRecursion IsHeld row) first (blank_rows n) (held-blank n))
held-rows (c ∷ cs) n first past long held =
    let even : length c.values ≡ length (rows_of n cs) = long.0 ∙ sym (length-rows_of n cs long.1) in
    subst RowsAreHeld (sym (window-beside (past - first) first c.values (rows_of n cs) even))
    (held-beside (take (past - first) (drop first c.values)) (take (past - first) (drop first (rows_of n cs))) held.0 (held-rows cs n first past long.1 held.1))

-- so are the rows of one granule more
pub held-granule : (part : PartView) (cs : List ColumnView) (g count first past : ℕ) → LieIn part cs → count ≡ length part.marks → g < count → Some (first, past) ≡ granule_of part g
    → AllByRecursion (CellsAreHeld first past) cs → RowsAreHeld (take (g * part.granularity) part.rows) → RowsAreHeld (take ((g + 1) * part.granularity) part.rows)
held-granule part cs g count first past lie is lt there held before =
    let pair = granule-pair part g first past (omega (arith, is, lt)) there in
    let n = part.granularity in
    let more : (g + 1) * n ≡ g * n + n = omega arith in
    let whole = held-rows cs (length part.rows) first past lie.long held in
    let here : RowsAreHeld (take (past - first) (drop first part.rows)) = subst (λ rows. RowsAreHeld (take (past - first) (drop first rows))) lie.rows whole in
    let granule : RowsAreHeld (take n (drop first part.rows)) =
    subst RowsAreHeld (granule-rows first n past part.rows (pair.1 ∙ ap (λ (m : ℕ). min m (length part.rows)) (more ∙ ap (λ (m : ℕ). m + n) (sym pair.0)))) here in
    subst (λ m. RowsAreHeld (take m part.rows)) (sym more)
    (all-take-more (λ row. AllByRecursion IsHeld row) (g * n) n part.rows before (subst (λ m. RowsAreHeld (take n (drop m part.rows))) pair.0 granule))

-- so are all rows
pub held-all : (n : ℕ) (rows : List (List Value)) → length rows ≤ n → RowsAreHeld (take n rows) → RowsAreHeld rows
held-all n rows h held = subst RowsAreHeld (take_all n rows h) held

-- ---- rows that fit

held-row : (columns : List Column) (row : List Value) → fits columns row ≡ true → AllByRecursion IsHeld row → AllByRecursion IsInRange row
held-row [] [] fit held = tt
held-row [] (v ∷ vs) fit held = absurd (cc)
held-row (c ∷ cs) [] fit held = absurd (cc)
held-row (c ∷ cs) (v ∷ vs) fit held =
    let parts = and_parts (is_of c.kind v) (fits cs vs) fit in
    (held.0 (and_parts (same_kind (kind_of v) c.kind) (is_value v) parts.0).1, held-row cs vs parts.1 held.1)

rows-in_range : (columns : List Column) (rows : List (List Value)) → AllByRecursion (λ row. fits columns row ≡ true) rows → RowsAreHeld rows → AreInRange rows
rows-in_range columns [] fit held = tt
rows-in_range columns (row ∷ rows) fit held = (held-row columns row fit.0 held.0, rows-in_range columns rows fit.1 held.1)

-- rows that fit are in range
pub fit-in_range : (columns : List Column) (rows : List (List Value)) → All (λ row. fits columns row ≡ true) rows → RowsAreHeld rows → AreInRange rows
fit-in_range columns rows fit held = rows-in_range columns rows (recursion_from_All (λ row. fits columns row ≡ true) rows fit) held
