-- Which rows marks are of, and that they rise.
use Rattle.std.proofs.Math.Nat.{suc-mul}
use Rattle.std.proofs.Common.{◌≡◌, ℕ, zero, suc, ◌+◌, ◌-◌, ◌*◌, ◌<◌, ◌≤◌, false, List, [], ◌∷◌, ◌++◌, length, get_or, slice_get, drop, ◌⊎◌, append_assoc, refl, sym, ap, ◌∙◌, subst, arith, inl, inr}
use Rattle.std.proofs.lemmas.Bool.{cases_lt, cond-true, lt-ltb}
use Rattle.std.proofs.lemmas.List.{drop-drop}
use Rattle.std.specs.Prelude.{min}
use Rattle.std.specs.List.{All}
use Rattle.std.specs.Option.{option_to_list}
use Rattle.std.specs.declared.option.Option.{Option}
use Rattle.std.specs.declared.option.Option.TheVariants.{Some, None}
use Rattle.std.specs.declared.cmp.Ordering.{Ordering}
use Rattle.std.specs.declared.cmp.Ordering.TheVariants.{Less, Equal, Greater}
use Rattle.std.specs.Ordering.{is_gt, ordering_then}
use Rattle.rmt_values.specs.declared.value.Value.{Value}
use Rattle.rmt_values.specs.Rows.{AllBelow, cell_cmp, key_cmp}
use Rattle.rmt_values.proofs.Sorting.{Up, Low, Up-from_sort}
use Rattle.rmt_values.proofs.Totals.{key_cmp_total}
use Rattle.rmt_granules.proofs.MergeStep.{drop-past}
use Rattle.rmt_granules.specs.Granules.{PartView, IsPart, key_values, marks_after, marks_of, AboveNone, Rising, granule_of}

-- the value of a row in the key's first column, where it has one
abbrev pub key_cell : List ℕ → List Value → Option Value
key_cell [] row = None
key_cell (c ∷ cs) row = slice_get row c

-- ---- the row that a mark is of

-- where the i-th row begins granule g, there is a mark of it
mark-there : (key : List ℕ) (n passed : ℕ) → 0 < n → (rows : List (List Value)) (g i : ℕ) → i ≡ passed + g * n → i < length rows → g < length (marks_after passed n key rows)
mark-there key n passed pos [] g i e below = absurd (omega (arith, below))
mark-there key n zero pos (r ∷ rs) zero i e below = omega arith
mark-there key n zero pos (r ∷ rs) (suc g) zero e below = absurd (omega (arith, e, suc-mul g n, pos))
mark-there key n zero pos (r ∷ rs) (suc g) (suc i) e below = let u = mark-there key n (n - 1) pos rs g i (omega (arith, e, suc-mul g n, pos)) (omega (arith, below)) in omega (arith, u)
mark-there key n (suc passed) pos (r ∷ rs) g zero e below = absurd (omega (arith, e))
mark-there key n (suc passed) pos (r ∷ rs) g (suc i) e below = mark-there key n passed pos rs g i (omega (arith, e)) (omega (arith, below))

-- where there is a mark, there is its row
row-there : (key : List ℕ) (n passed : ℕ) → 0 < n → (rows : List (List Value)) (g i : ℕ) → i ≡ passed + g * n → g < length (marks_after passed n key rows) → i < length rows
row-there key n passed pos [] g i e below = absurd (omega (arith, below))
row-there key n zero pos (r ∷ rs) zero i e below = omega (arith, e)
row-there key n zero pos (r ∷ rs) (suc g) zero e below = omega arith
row-there key n zero pos (r ∷ rs) (suc g) (suc i) e below = let u = row-there key n (n - 1) pos rs g i (omega (arith, e, suc-mul g n, pos)) (omega (arith, below)) in omega (arith, u)
row-there key n (suc passed) pos (r ∷ rs) g zero e below = omega arith
row-there key n (suc passed) pos (r ∷ rs) g (suc i) e below = let u = row-there key n passed pos rs g i (omega (arith, e)) below in omega (arith, u)

pub part-mark-there : (part : PartView) → IsPart part → (g : ℕ) → g * part.granularity < length part.rows → g < length part.marks
part-mark-there part p g h =
    let u = mark-there part.key part.granularity 0 p.positive part.rows g (g * part.granularity) (omega arith) h in
    let e = ap length p.marked in
    omega (arith, u, e)

pub part-row-there : (part : PartView) → IsPart part → (g : ℕ) → g < length part.marks → g * part.granularity < length part.rows
part-row-there part p g h =
    let e = ap length p.marked in
    row-there part.key part.granularity 0 p.positive part.rows g (g * part.granularity) (omega arith) (omega (arith, h, e))

-- ---- the first value of a mark

there : {X : Type 0} (xs : List X) (i : ℕ) → i < length xs → (x : X) × (slice_get xs i ≡ Some x)
there [] i h = absurd (omega (arith, h))
there (x ∷ xs) zero h = (x, refl)
there (x ∷ xs) (suc i) h = there xs i (omega (arith, h))

first-shown : (o : Option Value) (v : Value) (vs : List Value) → o ≡ Some v → slice_get (option_to_list o ++ vs) 0 ≡ o
first-shown None v vs h = absurd (cc)
first-shown (Some w) v vs h = refl

mark-cell : (key : List ℕ) (row : List Value) → AllBelow (length row) key → slice_get (key_values key row) 0 ≡ key_cell key row
mark-cell [] row h = refl
mark-cell (c ∷ cs) row h =
    let t = there row c h.0 in first-shown (slice_get row c) t.0 (key_values cs row) t.1

at-first : {X : Type 0} (P : X → Type 0) (x : X) (xs : List X) → All P (x ∷ xs) → P x
at-first P x xs h = h zero x (omega arith)

at-rest : {X : Type 0} (P : X → Type 0) (x : X) (xs : List X) → All P (x ∷ xs) → All P xs
at-rest P x xs h k d p = h (suc k) d (omega (arith, p))

abbrev WideAs : ℕ → List Value → Type 0
WideAs w row = length row ≡ w

below-width : (w : ℕ) (row : List Value) (key : List ℕ) → length row ≡ w → AllBelow w key → AllBelow (length row) key
below-width w row key e h = subst (λ (n : ℕ). AllBelow n key) (sym e) h

mark-row : (key : List ℕ) (w n passed : ℕ) → 0 < n → AllBelow w key → (rows : List (List Value)) (g i : ℕ) → All (λ r. length r ≡ w) rows → i ≡ passed + g * n → i < length rows
    → slice_get (get_or (marks_after passed n key rows) g []) 0 ≡ key_cell key (get_or rows i [])
mark-row key w n passed pos k [] g i all e below = absurd (omega (arith, below))
mark-row key w n zero pos k (r ∷ rs) zero zero all e below = mark-cell key r (below-width w r key (at-first (WideAs w) r rs all) k)
mark-row key w n zero pos k (r ∷ rs) zero (suc i) all e below = absurd (omega (arith, e))
mark-row key w n zero pos k (r ∷ rs) (suc g) zero all e below = absurd (omega (arith, e, suc-mul g n, pos))
mark-row key w n zero pos k (r ∷ rs) (suc g) (suc i) all e below = mark-row key w n (n - 1) pos k rs g i (at-rest (WideAs w) r rs all) (omega (arith, e, suc-mul g n, pos)) (omega (arith, below))
mark-row key w n (suc passed) pos k (r ∷ rs) g zero all e below = absurd (omega (arith, e))
mark-row key w n (suc passed) pos k (r ∷ rs) g (suc i) all e below = mark-row key w n passed pos k rs g i (at-rest (WideAs w) r rs all) (omega (arith, e)) (omega (arith, below))

-- the first value of mark g is that of its row's key
pub part-mark-cell : (part : PartView) → IsPart part → (g : ℕ) → g < length part.marks
    → slice_get (get_or part.marks g []) 0 ≡ key_cell part.key (get_or part.rows (g * part.granularity) [])
part-mark-cell part p g h =
    ap (λ (ms : List (List Value)). slice_get (get_or ms g []) 0) p.marked
    ∙ mark-row part.key (length part.kinds) part.granularity 0 p.positive p.key_there part.rows g (g * part.granularity) p.wide (omega arith) (part-row-there part p g h)

-- ---- marks rise

-- the order of keys is that of their first values first
pub head-order : (key : List ℕ) (a b : List Value) → is_gt (key_cmp key a b) ≡ false → is_gt (cell_cmp (key_cell key a) (key_cell key b)) ≡ false
head-order [] a b h = refl
head-order (c ∷ cs) a b h = go (cell_cmp (slice_get a c) (slice_get b c)) (key_cmp cs a b) h where
  go : (o r : Ordering) → is_gt (ordering_then o r) ≡ false → is_gt o ≡ false
  go Less r h = refl
  go Equal r h = refl
  go Greater r h = h

none-marks : (key : List ℕ) (w passed n : ℕ) (x : List Value) (rs : List (List Value)) → AllBelow w key → length x ≡ w → All (λ r. length r ≡ w) rs
    → Low (key_cmp key) (key_cmp_total key) x rs → AboveNone (key_values key x) (marks_after passed n key rs)
none-marks key w passed n x [] k e all h = tt
none-marks key w zero n x (r ∷ rs) k e all h =
    let own = mark-cell key x (below-width w x key e k) in
    let other = mark-cell key r (below-width w r key (at-first (WideAs w) r rs all) k) in (
      ap (λ (o : Option Value). is_gt (cell_cmp o (slice_get (key_values key r) 0))) own
          ∙ (ap (λ (o : Option Value). is_gt (cell_cmp (key_cell key x) o)) other ∙ head-order key x r h.0),
      none-marks key w (n - 1) n x rs k e (at-rest (WideAs w) r rs all) h.1,
    )
none-marks key w (suc passed) n x (r ∷ rs) k e all h = none-marks key w passed n x rs k e (at-rest (WideAs w) r rs all) h.1

rising-marks : (key : List ℕ) (w passed n : ℕ) (rs : List (List Value)) → AllBelow w key → All (λ r. length r ≡ w) rs
    → Up (key_cmp key) (key_cmp_total key) rs → Rising (marks_after passed n key rs)
rising-marks key w passed n [] k all h = tt
rising-marks key w zero n (r ∷ rs) k all h = (none-marks key w (n - 1) n r rs k (at-first (WideAs w) r rs all) (at-rest (WideAs w) r rs all) h.0, rising-marks key w (n - 1) n rs k (at-rest (WideAs w) r rs all) h.1)
rising-marks key w (suc passed) n (r ∷ rs) k all h = rising-marks key w passed n rs k (at-rest (WideAs w) r rs all) h.1

pub marks-rise : (part : PartView) → IsPart part → Rising part.marks
marks-rise part p =
    subst Rising (sym p.marked) (rising-marks part.key (length part.kinds) 0 part.granularity part.rows p.key_there p.wide (Up-from_sort (key_cmp part.key) (key_cmp_total part.key) part.rows p.sorted))

-- ---- how many granules there are

pub enough-granules : (part : PartView) → IsPart part → length part.rows ≤ length part.marks * part.granularity
enough-granules part p = elim (cases_lt (length part.marks * part.granularity) (length part.rows)) [
  | inl h ↦ absurd (let u = part-mark-there part p (length part.marks) h in omega (arith, u))
  | inr h ↦ h
]

no-more-granules : (part : PartView) → IsPart part → (g : ℕ) → length part.marks ≡ g → g * part.granularity < length part.rows + part.granularity
no-more-granules part p zero e = let u = p.positive in omega (arith, u)
no-more-granules part p (suc g) e = let u = part-row-there part p g (omega (arith, e)) in omega (arith, u, suc-mul g part.granularity)

pub no-granules-more : (part : PartView) → IsPart part → length part.marks * part.granularity < length part.rows + part.granularity
no-granules-more part p = no-more-granules part p (length part.marks) refl

-- ---- the rows of a granule

-- the first row of a granule is one of the part's
pub starts-within : (part : PartView) → IsPart part → (g rows marks : ℕ) → length part.rows ≡ rows → length part.marks ≡ marks → g < marks → g * part.granularity < rows
starts-within part p g rows marks e m h = let u = part-row-there part p g (omega (arith, m, h)) in omega (arith, u, e)

pub granule-is : (part : PartView) → IsPart part → (g count size : ℕ) → length part.rows ≡ count → g < length part.marks → size ≡ min part.granularity (count - g * part.granularity)
    → Some (g * part.granularity, g * part.granularity + size) ≡ granule_of part g
granule-is part p g count size e h s =
    let first = part-row-there part p g h in
    let past : g * part.granularity + size ≡ min ((g + 1) * part.granularity) (length part.rows) = omega (arith, first, e, s, suc-mul g part.granularity) in
    ap (λ (k : ℕ). Some (g * part.granularity, k)) past ∙ sym (cond-true _ _ _ (lt-ltb g (length part.marks) h))

-- ---- one mark after the other

marks-skip : (p n : ℕ) (key : List ℕ) (rows : List (List Value)) → marks_after p n key rows ≡ marks_of n key (drop p rows)
marks-skip zero n key rows = refl
marks-skip (suc p) n key [] = refl
marks-skip (suc p) n key (r ∷ rs) = marks-skip p n key rs

from-row : (rows : List (List Value)) (i : ℕ) → i < length rows → drop i rows ≡ get_or rows i [] ∷ drop (i + 1) rows
from-row [] i h = absurd (omega (arith, h))
from-row (r ∷ rs) zero h = refl
from-row (r ∷ rs) (suc i) h = let e : suc i + 1 ≡ suc (i + 1) = omega arith in rw e (from-row rs i (omega (arith, h)))

-- the marks so far and those of the rows from one on, with one mark more
pub mark-next : (marks all rows : List (List Value)) (key : List ℕ) (n i next most : ℕ) → 0 < n → i < length rows → length rows ≤ most → next ≡ min (i + n) most
    → marks ++ marks_of n key (drop i rows) ≡ all → (marks ++ key_values key (get_or rows i []) ∷ []) ++ marks_of n key (drop next rows) ≡ all
mark-next marks all rows key n i next most pos h few is so_far =
    let r = get_or rows i [] in
    let past : drop next rows ≡ drop (i + 1 + (n - 1)) rows = go (cases_lt (i + n) most) in
    append_assoc marks (key_values key r ∷ []) (marks_of n key (drop next rows))
    ∙ (ap (λ (l : List (List Value)). marks ++ key_values key r ∷ marks_of n key l) (past ∙ sym (drop-drop (n - 1) (i + 1) rows))
    ∙ (ap (λ (l : List (List Value)). marks ++ key_values key r ∷ l) (sym (marks-skip (n - 1) n key (drop (i + 1) rows)))
    ∙ (ap (λ (l : List (List Value)). marks ++ marks_of n key l) (sym (from-row rows i h)) ∙ so_far)))
  where
    go : (i + n < most) ⊎ (most ≤ i + n) → drop next rows ≡ drop (i + 1 + (n - 1)) rows
    go (inl l) = ap (λ (k : ℕ). drop k rows) (let e : next ≡ i + 1 + (n - 1) = omega (arith, is, l, pos) in e)
    go (inr l) = drop-past rows next (omega (arith, is, l, few)) ∙ sym (drop-past rows (i + 1 + (n - 1)) (omega (arith, l, few, pos)))
