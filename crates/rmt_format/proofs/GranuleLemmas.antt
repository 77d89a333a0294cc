-- The rows of a granule, column by column.
use Rattle.std.proofs.Common.{◌≡◌, ℕ, zero, suc, ◌+◌, ◌-◌, ◌*◌, ◌<◌, ◌≤◌, min, List, [], ◌∷◌, ◌++◌, length, take, drop, slice_get, Option, Some, None, nat_lt, zero-add, refl, sym, ap, ◌∙◌, append_assoc, arith}
use Rattle.std.specs.List.{flat_map}
use Rattle.std.specs.Option.{option_to_list}
use Rattle.std.proofs.lemmas.List.Concat.{flat_map-append}
use Rattle.std.proofs.lemmas.List.{drop-drop, length-drop}
use Rattle.std.proofs.lemmas.Bool.{cond-true, lt-ltb}
use Rattle.std.proofs.lemmas.Nat.{mul-le}
use Rattle.std.proofs.lemmas.Option.{some_pair_parts}
use Rattle.rmt_values.specs.declared.value.Value.{Value}
use Rattle.rmt_bytes.specs.Encoding.{value_bytes}
use Rattle.rmt_columns.specs.Columns.{ColumnView}
use Rattle.rmt_columns.specs.RowsByColumn.{beside, rows_of, kinds_of, AreLong}
use Rattle.rmt_columns.proofs.RowsLemmas.{length-rows_of}
use Rattle.rmt_granules.specs.Granules.{PartView, IsPart, granule_of}
use Rattle.rmt_granules.proofs.Marks.{no-granules-more}
use Rattle.rmt_format.specs.PartBytes.{column_of, columns_bytes, granules_bytes}
use Rattle.rmt_format.specs.StoredBytes.{cells_bytes}

-- ---- rows from `first` on, so many of them

-- the columns of a granule's rows are those parts of the columns
drop-beside : (n : ℕ) (vs : List Value) (rs : List (List Value)) → length vs ≡ length rs → drop n (beside vs rs) ≡ beside (drop n vs) (drop n rs)
drop-beside zero vs rs h = refl
drop-beside (suc n) [] [] h = refl
drop-beside (suc n) [] (r ∷ rs) h = absurd (omega (arith, h))
drop-beside (suc n) (v ∷ vs) [] h = absurd (omega (arith, h))
drop-beside (suc n) (v ∷ vs) (r ∷ rs) h = drop-beside n vs rs (omega (arith, h))

take-beside : (n : ℕ) (vs : List Value) (rs : List (List Value)) → length vs ≡ length rs → take n (beside vs rs) ≡ beside (take n vs) (take n rs)
take-beside zero vs rs h = refl
take-beside (suc n) [] [] h = refl
take-beside (suc n) [] (r ∷ rs) h = absurd (omega (arith, h))
take-beside (suc n) (v ∷ vs) [] h = absurd (omega (arith, h))
take-beside (suc n) (v ∷ vs) (r ∷ rs) h = ap (λ (l : List (List Value)). (v ∷ r) ∷ l) (take-beside n vs rs (omega (arith, h)))

length-dropped : {A B : Type 0} (n : ℕ) (xs : List A) (ys : List B) → length xs ≡ length ys → length (drop n xs) ≡ length (drop n ys)
length-dropped zero xs ys h = h
length-dropped (suc n) [] [] h = refl
length-dropped (suc n) [] (y ∷ ys) h = absurd (omega (arith, h))
length-dropped (suc n) (x ∷ xs) [] h = absurd (omega (arith, h))
length-dropped (suc n) (x ∷ xs) (y ∷ ys) h = length-dropped n xs ys (omega (arith, h))

length-taken : {A B : Type 0} (n : ℕ) (xs : List A) (ys : List B) → length xs ≡ length ys → length (take n xs) ≡ length (take n ys)
length-taken zero xs ys h = refl
length-taken (suc n) [] [] h = refl
length-taken (suc n) [] (y ∷ ys) h = absurd (omega (arith, h))
length-taken (suc n) (x ∷ xs) [] h = absurd (omega (arith, h))
length-taken (suc n) (x ∷ xs) (y ∷ ys) h = ap suc (length-taken n xs ys (omega (arith, h)))

pub first_column : (vs : List Value) (rs : List (List Value)) → length vs ≡ length rs → column_of 0 (beside vs rs) ≡ vs
first_column [] [] h = refl
first_column [] (r ∷ rs) h = absurd (omega (arith, h))
first_column (v ∷ vs) [] h = absurd (omega (arith, h))
first_column (v ∷ vs) (r ∷ rs) h = ap (λ (l : List Value). v ∷ l) (first_column vs rs (omega (arith, h)))

later_column : (c : ℕ) (vs : List Value) (rs : List (List Value)) → length vs ≡ length rs → column_of (suc c) (beside vs rs) ≡ column_of c rs
later_column c [] [] h = refl
later_column c [] (r ∷ rs) h = absurd (omega (arith, h))
later_column c (v ∷ vs) [] h = absurd (omega (arith, h))
later_column c (v ∷ vs) (r ∷ rs) h = ap (λ (l : List Value). option_to_list (slice_get r c) ++ l) (later_column c vs rs (omega (arith, h)))

pub later_columns : (n c : ℕ) (vs : List Value) (rs : List (List Value)) → length vs ≡ length rs → columns_bytes (suc c) n (beside vs rs) ≡ columns_bytes c n rs
later_columns zero c vs rs h = refl
later_columns (suc n) c vs rs h =
    ap (λ (l : List ℕ). l ++ columns_bytes (suc (suc c)) n (beside vs rs)) (ap (flat_map value_bytes) (later_column c vs rs h))
    ∙ ap (λ (l : List ℕ). flat_map value_bytes (column_of c rs) ++ l) (later_columns n (suc c) vs rs h)

pub even-windows : (count first : ℕ) (vs : List Value) (rs : List (List Value)) → length vs ≡ length rs → length (take count (drop first vs)) ≡ length (take count (drop first rs))
even-windows count first vs rs h = length-taken count (drop first vs) (drop first rs) (length-dropped first vs rs h)

pub window-beside : (count first : ℕ) (vs : List Value) (rs : List (List Value)) → length vs ≡ length rs
    → take count (drop first (beside vs rs)) ≡ beside (take count (drop first vs)) (take count (drop first rs))
window-beside count first vs rs h =
    ap (take count) (drop-beside first vs rs h) ∙ take-beside count (drop first vs) (drop first rs) (length-dropped first vs rs h)

-- the rows from one on, so many of them, have the same bytes as those cells of the columns
pub cells-are : (cs : List ColumnView) (n first count past : ℕ) → AreLong n cs → count ≡ past - first
    → columns_bytes 0 (length cs) (take count (drop first (rows_of n cs))) ≡ flat_map (cells_bytes first past) cs
cells-are [] n first count past h k = refl
cells-are (c ∷ cs) n first count past h k =
    let rows = length-rows_of n cs h.1 in
    let even : length c.values ≡ length (rows_of n cs) = h.0 ∙ sym rows in
    let vs = take count (drop first c.values) in
    let rs = take count (drop first (rows_of n cs)) in
    let even-cells = even-windows count first c.values (rows_of n cs) even in
    ap (columns_bytes 0 (suc (length cs))) (window-beside count first c.values (rows_of n cs) even)
    ∙ ap (λ (l : List ℕ). l ++ columns_bytes 1 (length cs) (beside vs rs)) (ap (flat_map value_bytes) (first_column vs rs even-cells))
    ∙ ap (λ (l : List ℕ). flat_map value_bytes vs ++ l) (later_columns (length cs) 0 vs rs even-cells ∙ cells-are cs n first count past h.1 k)
    ∙ ap (λ (m : ℕ). flat_map value_bytes (take m (drop first c.values)) ++ flat_map (cells_bytes first past) cs) k

-- ---- one cell after the other

pub take-next : {A : Type 0} (k : ℕ) (xs : List A) → take (suc k) xs ≡ take k xs ++ option_to_list (slice_get xs k)
take-next zero [] = refl
take-next zero (x ∷ xs) = refl
take-next (suc k) [] = refl
take-next {A = A} (suc k) (x ∷ xs) = ap (λ (l : List A). x ∷ l) (take-next k xs)

pub slice_get-drop : {A : Type 0} (first k : ℕ) (xs : List A) → slice_get (drop first xs) k ≡ slice_get xs (first + k)
slice_get-drop zero k xs = rw (zero-add k) refl
slice_get-drop (suc first) k [] = refl
slice_get-drop (suc first) k (x ∷ xs) = let e : suc first + k ≡ suc (first + k) = omega arith in slice_get-drop first k xs ∙ ap (slice_get (x ∷ xs)) (sym e)

-- the cells up to the next one
pub cells-next : (first i : ℕ) (c : ColumnView) → first ≤ i
    → cells_bytes first (i + 1) c ≡ cells_bytes first i c ++ flat_map value_bytes (option_to_list (slice_get c.values i))
cells-next first i c h =
    let n : i + 1 - first ≡ suc (i - first) = omega (arith, h) in
    let at : first + (i - first) ≡ i = omega (arith, h) in
    ap (λ (m : ℕ). flat_map value_bytes (take m (drop first c.values))) n
    ∙ ap (flat_map value_bytes) (take-next (i - first) (drop first c.values) ∙ ap (λ (o : Option Value). take (i - first) (drop first c.values) ++ option_to_list o) (slice_get-drop first (i - first) c.values ∙ ap (slice_get c.values) at))
    ∙ flat_map-append value_bytes (take (i - first) (drop first c.values)) (option_to_list (slice_get c.values i))

pub end-is : (first i past : ℕ) → first ≤ i → (first ≤ past → i ≤ past) → (past ≤ first → i ≤ first) → past ≤ i → i - first ≡ past - first
end-is first i past low high none h = grind (arith, low, high, none, h)

-- the cells up to the last one
pub cells-end : (first i past : ℕ) (c : ColumnView) → first ≤ i → (first ≤ past → i ≤ past) → (past ≤ first → i ≤ first) → past ≤ i → cells_bytes first i c ≡ cells_bytes first past c
cells-end first i past c low high none h =
    let n : i - first ≡ past - first = end-is first i past low high none h in
    ap (λ (m : ℕ). flat_map value_bytes (take m (drop first c.values))) n

-- ---- one granule after the other

take-short : {A : Type 0} (m n : ℕ) (xs : List A) → m ≤ n → (m < n → length xs ≤ m) → take m xs ≡ take n xs
take-short zero zero xs le h = refl
take-short zero (suc n) [] le h = refl
take-short zero (suc n) (x ∷ xs) le h = absurd (omega (arith, h (omega arith)))
take-short (suc m) zero xs le h = absurd (omega (arith, le))
take-short (suc m) (suc n) [] le h = refl
take-short {A = A} (suc m) (suc n) (x ∷ xs) le h =
    ap (λ (l : List A). x ∷ l) (take-short m n xs (omega (arith, le)) (λ lt. omega (arith, h (omega (arith, lt)))))

-- the rows of a granule, from its first to past its last
pub granule-rows : {A : Type 0} (start size past : ℕ) (rows : List A) → past ≡ min (start + size) (length rows)
    → take (past - start) (drop start rows) ≡ take size (drop start rows)
granule-rows start size past rows e =
    let len = length-drop start rows in
    take-short (past - start) size (drop start rows) (omega (arith, e)) (λ lt. omega (arith, e, len, lt))

pub record LieIn (part : PartView) (cs : List ColumnView) : Type 0 where
  pub rows : rows_of (length part.rows) cs ≡ part.rows
  pub kinds : kinds_of cs ≡ part.kinds
  pub long : AreLong (length part.rows) cs

pub length-kinds_of : (cs : List ColumnView) → length (kinds_of cs) ≡ length cs
length-kinds_of [] = refl
length-kinds_of (c ∷ cs) = ap suc (length-kinds_of cs)

-- a granule's rows have the bytes of its cells
granule-bytes : (part : PartView) (cs : List ColumnView) (start past : ℕ) → LieIn part cs → past ≡ min (start + part.granularity) (length part.rows)
    → columns_bytes 0 (length part.kinds) (take part.granularity (drop start part.rows)) ≡ flat_map (cells_bytes start past) cs
granule-bytes part cs start past lie e =
    let width : length part.kinds ≡ length cs = sym (ap length lie.kinds) ∙ length-kinds_of cs in
    ap (columns_bytes 0 (length part.kinds)) (sym (granule-rows start part.granularity past part.rows e))
    ∙ ap (λ (k : ℕ). columns_bytes 0 k (take (past - start) (drop start part.rows))) width
    ∙ ap (λ (rows : List (List Value)). columns_bytes 0 (length cs) (take (past - start) (drop start rows))) (sym lie.rows)
    ∙ cells-are cs (length part.rows) start (past - start) past lie.long refl

pub granule-pair : (part : PartView) (g first past : ℕ) → g < length part.marks → Some (first, past) ≡ granule_of part g
    → (first ≡ g * part.granularity) × (past ≡ min ((g + 1) * part.granularity) (length part.rows))
granule-pair part g first past lt e =
    some_pair_parts first (g * part.granularity) past (min ((g + 1) * part.granularity) (length part.rows))
    (e ∙ cond-true (nat_lt g (length part.marks)) (Some (g * part.granularity, min ((g + 1) * part.granularity) (length part.rows))) None (lt-ltb g (length part.marks) lt))

-- what was appended with the granules after it is the whole, with one granule more
pub granule-next : (part : PartView) (cs : List ColumnView) (g count first past : ℕ) (out new whole : List ℕ)
    → LieIn part cs → count ≡ length part.marks → g < count → Some (first, past) ≡ granule_of part g → new ≡ out ++ flat_map (cells_bytes first past) cs
    → out ++ granules_bytes (length part.kinds) part.granularity (count - g) (drop (g * part.granularity) part.rows) ≡ whole
    → new ++ granules_bytes (length part.kinds) part.granularity (count - (g + 1)) (drop ((g + 1) * part.granularity) part.rows) ≡ whole
granule-next part cs g count first past out new whole lie is lt there e so_far =
    let pair = granule-pair part g first past (omega (arith, is, lt)) there in
    let more : (g + 1) * part.granularity ≡ g * part.granularity + part.granularity = omega arith in
    let left : count - g ≡ suc (count - (g + 1)) = omega (arith, lt) in
    let bytes = granule-bytes part cs first past lie (pair.1 ∙ ap (λ (m : ℕ). min m (length part.rows)) (more ∙ ap (λ (m : ℕ). m + part.granularity) (sym pair.0))) in
    let k = length part.kinds in
    let n = part.granularity in
    let later = granules_bytes k n (count - (g + 1)) (drop ((g + 1) * n) part.rows) in
    let one : granules_bytes k n (count - g) (drop (g * n) part.rows) ≡ flat_map (cells_bytes first past) cs ++ later =
    ap (λ (m : ℕ). granules_bytes k n m (drop (g * n) part.rows)) left
    ∙ ap (λ (l : List ℕ). l ++ granules_bytes k n (count - (g + 1)) (drop n (drop (g * n) part.rows))) (ap (λ (m : ℕ). columns_bytes 0 k (take n (drop m part.rows))) (sym pair.0) ∙ bytes)
    ∙ ap (λ (l : List (List Value)). flat_map (cells_bytes first past) cs ++ granules_bytes k n (count - (g + 1)) l) (drop-drop n (g * n) part.rows ∙ ap (λ (m : ℕ). drop m part.rows) (sym more)) in
    ap (λ (l : List ℕ). l ++ later) e ∙ append_assoc out (flat_map (cells_bytes first past) cs) later ∙ ap (λ (l : List ℕ). out ++ l) (sym one) ∙ so_far

not-none : {A : Type 0} (x : A) → ¬ (None ≡ Some x)
not-none x e = absurd cc

-- each granule is there
pub granule-there : (part : PartView) (g count : ℕ) → count ≡ length part.marks → g < count → ¬ (None ≡ granule_of part g)
granule-there part g count is lt e =
    let pair : ℕ × ℕ = (g * part.granularity, min ((g + 1) * part.granularity) (length part.rows)) in
    let none : None ≡ Some pair = e ∙ cond-true (nat_lt g (length part.marks)) (Some pair) None (lt-ltb g (length part.marks) (omega (arith, is, lt))) in
    not-none pair none

-- ---- how many granules there are

-- there are no more granules than rows
pub few-granules : (part : PartView) → IsPart part → length part.marks ≤ length part.rows
few-granules part is = go (length part.marks) (length part.rows) part.granularity is.positive (no-granules-more part is) where
  go : (g r n : ℕ) → 0 < n → g * n < r + n → g ≤ r
  go zero r n p h = omega arith
  go (suc g) r n p h = let low : g * 1 ≤ g * n = mul-le g 1 g n (omega arith) (omega (arith, p)) in let more : suc g * n ≡ g * n + n = omega arith in omega (arith, h, low, more)
