-- A row that a filter keeps lies between the filter's bounds.
use Rattle.std.proofs.Common.{◌≡◌, ℕ, Bool, true, false, not, List, [], ◌∷◌, ◌++◌, slice_get, is_lt, refl, sym, ap, ◌∙◌, subst, inl, inr}
use Rattle.std.specs.Prelude.{◌⊎◌, nat_eq}
use Rattle.std.specs.Option.{option_to_list}
use Rattle.std.proofs.lemmas.Bool.{cases_Bool, and_parts, cond-true, cond-false, eqb-true}
use Rattle.std.specs.declared.option.Option.{Option}
use Rattle.std.specs.declared.option.Option.TheVariants.{Some, None}
use Rattle.std.specs.declared.cmp.Ordering.{Ordering}
use Rattle.std.specs.declared.cmp.Ordering.TheVariants.{Less, Equal, Greater}
use Rattle.std.specs.Ordering.{is_gt, is_eq, is_le}
use Rattle.rmt_values.specs.declared.value.Value.{Value}
use Rattle.rmt_values.specs.declared.cmp.Cmp.{Cmp}
use Rattle.rmt_values.specs.declared.cmp.Cmp.TheVariants as cmps
use Rattle.rmt_values.specs.declared.checked.Checked.{Checked}
use Rattle.rmt_values.specs.declared.checked.Checked.TheOpen.{Checked-F, Test, Both, Either, Not}
use Rattle.rmt_values.specs.declared.checked.Checked.TheViews.{roll-Checked}
use Rattle.rmt_values.specs.declared.checked.Checked.TheFolds.{ind-Checked, map-Checked, fold-roll-Checked}
use Rattle.rmt_values.specs.Rows.{value_cmp}
use Rattle.rmt_values.specs.Filters.{holds, keeps, cell_holds}
use Rattle.rmt_keyrange.specs.declared.key_range.KeyRange.{KeyRange}
use Rattle.rmt_keyrange.specs.Ranges.{bounds_by, lows_at, highs_at, lows, highs, IsAmong, IsGreatest, IsLeast, IsRangeOf}
use Rattle.rmt_keyrange.specs.Chosen.{cell_most, cell_below}
use Rattle.rmt_granules.proofs.Marks.{key_cell}

-- the value of a row in the key's first column lies between the bounds
abbrev pub IsWithin : Option Value → Option Value → List ℕ → List Value → Type 0
IsWithin low high key row = (cell_below low (key_cell key row) ≡ false) × (cell_most high (key_cell key row) ≡ true)

among-append : (v : Value) (xs ys : List Value) → IsAmong v (xs ++ ys) → IsAmong v xs ⊎ IsAmong v ys
among-append v [] ys h = inr h
among-append v (x ∷ xs) ys (inl e) = inl (inl e)
among-append v (x ∷ xs) ys (inr h) = elim (among-append v xs ys h) [ inl l ↦ inl (inr l) | inr r ↦ inr r ]

-- ---- from below

eq-not-lt : (o : Ordering) → is_eq o ≡ true → is_lt o ≡ false
eq-not-lt Less h = absurd (cc)
eq-not-lt Equal h = refl
eq-not-lt Greater h = refl

gt-not-lt : (o : Ordering) → is_gt o ≡ true → is_lt o ≡ false
gt-not-lt Less h = absurd (cc)
gt-not-lt Equal h = refl
gt-not-lt Greater h = refl

not-not : (b : Bool) → not b ≡ true → b ≡ false
not-not true h = absurd (cc)
not-not false h = refl

same-low : (u value v : Value) → IsAmong v (value ∷ []) → is_lt (value_cmp u value) ≡ false → is_lt (value_cmp u v) ≡ false
same-low u value v (inl e) h = subst (λ (w : Value). is_lt (value_cmp u w) ≡ false) (sym e) h
same-low u value v (inr m) h = absurd m

low-term : (cmp : Cmp) (cell : Option Value) (value v : Value) → cell_holds cmp cell value ≡ true → IsAmong v (option_to_list ((bounds_by cmp value).low)) → cell_below (Some v) cell ≡ false
low-term cmp None value v h m = absurd (cc)
low-term cmps.Eq (Some u) value v h m = same-low u value v m (eq-not-lt _ h)
low-term cmps.Ne (Some u) value v h m = absurd m
low-term cmps.Lt (Some u) value v h m = absurd m
low-term cmps.Le (Some u) value v h m = absurd m
low-term cmps.Gt (Some u) value v h m = same-low u value v m (gt-not-lt _ h)
low-term cmps.Ge (Some u) value v h m = same-low u value v m (not-not _ h)

-- ---- from above

eq-not-gt : (o : Ordering) → is_eq o ≡ true → not (is_gt o) ≡ true
eq-not-gt Less h = refl
eq-not-gt Equal h = refl
eq-not-gt Greater h = absurd (cc)

lt-not-gt : (o : Ordering) → is_lt o ≡ true → not (is_gt o) ≡ true
lt-not-gt Less h = refl
lt-not-gt Equal h = refl
lt-not-gt Greater h = absurd (cc)

le-not-gt : (o : Ordering) → is_le o ≡ true → not (is_gt o) ≡ true
le-not-gt Less h = refl
le-not-gt Equal h = refl
le-not-gt Greater h = absurd (cc)

same-high : (u value v : Value) → IsAmong v (value ∷ []) → not (is_gt (value_cmp u value)) ≡ true → not (is_gt (value_cmp u v)) ≡ true
same-high u value v (inl e) h = subst (λ (w : Value). not (is_gt (value_cmp u w)) ≡ true) (sym e) h
same-high u value v (inr m) h = absurd m

high-term : (cmp : Cmp) (cell : Option Value) (value v : Value) → cell_holds cmp cell value ≡ true → IsAmong v (option_to_list ((bounds_by cmp value).high)) → cell_most (Some v) cell ≡ true
high-term cmp None value v h m = absurd (cc)
high-term cmps.Eq (Some u) value v h m = same-high u value v m (eq-not-gt _ h)
high-term cmps.Ne (Some u) value v h m = absurd m
high-term cmps.Lt (Some u) value v h m = same-high u value v m (lt-not-gt _ h)
high-term cmps.Le (Some u) value v h m = same-high u value v m (le-not-gt _ h)
high-term cmps.Gt (Some u) value v h m = absurd m
high-term cmps.Ge (Some u) value v h m = absurd m

-- ---- of all terms

same-column : (at c : ℕ) (row : List Value) → nat_eq at c ≡ true → slice_get row at ≡ slice_get row c
same-column at c row e = ap (slice_get row) (eqb-true at c e)

low-test : (c at : ℕ) (cmp : Cmp) (value v : Value) (row : List Value) → cell_holds cmp (slice_get row at) value ≡ true → IsAmong v (lows_at c (Test at cmp value)) → cell_below (Some v) (slice_get row c) ≡ false
low-test c at cmp value v row h m = elim (cases_Bool (nat_eq at c)) [
  | inl e ↦
      subst (λ (o : Option Value). cell_below (Some v) o ≡ false) (same-column at c row e)
      (low-term cmp (slice_get row at) value v h (subst (IsAmong v) (cond-true _ _ _ e) m))
  | inr e ↦ absurd (subst (IsAmong v) (cond-false _ _ _ e) m)
]

high-test : (c at : ℕ) (cmp : Cmp) (value v : Value) (row : List Value) → cell_holds cmp (slice_get row at) value ≡ true → IsAmong v (highs_at c (Test at cmp value)) → cell_most (Some v) (slice_get row c) ≡ true
high-test c at cmp value v row h m = elim (cases_Bool (nat_eq at c)) [
  | inl e ↦
      subst (λ (o : Option Value). cell_most (Some v) o ≡ true) (same-column at c row e)
      (high-term cmp (slice_get row at) value v h (subst (IsAmong v) (cond-true _ _ _ e) m))
  | inr e ↦ absurd (subst (IsAmong v) (cond-false _ _ _ e) m)
]

-- a row that the filter keeps is not below a literal that it has to exceed
abbrev LowKept : ℕ → List Value → Checked → Type 0
LowKept c row f = (v : Value) → holds f row ≡ true → IsAmong v (lows c f) → cell_below (Some v) (slice_get row c) ≡ false

low-level : (c : ℕ) (row : List Value) (v : Value) (y : Checked-F ((f : Checked) × LowKept c row f))
    → keeps row (map-Checked Checked Bool (λ f. holds f row) (map-Checked ((f : Checked) × LowKept c row f) Checked (λ e. e.0) y)) ≡ true
    → IsAmong v (lows_at c (map-Checked Checked (List Value) (lows c) (map-Checked ((f : Checked) × LowKept c row f) Checked (λ e. e.0) y))) → cell_below (Some v) (slice_get row c) ≡ false
low-level c row v (Test at cmp value) h m = low-test c at cmp value v row h m
low-level c row v (Both f g) h m =
    let w = and_parts (holds f.0 row) (holds g.0 row) h in
    elim (among-append v (lows c f.0) (lows c g.0) m) [ inl l ↦ f.1 v w.0 l | inr r ↦ g.1 v w.1 r ]
low-level c row v (Either f g) h m = absurd m
low-level c row v (Not f) h m = absurd m

low-kept : (c : ℕ) (row : List Value) (f : Checked) → LowKept c row f
low-kept c row = ind-Checked (LowKept c row) (λ x y is.
    subst (λ z. LowKept c row (roll-Checked z)) is (λ v h m.
    low-level c row v y (sym (fold-roll-Checked Bool (keeps row) (map-Checked _ _ (λ e. e.0) y)) ∙ h)
    (subst (IsAmong v) (fold-roll-Checked (List Value) (lows_at c) (map-Checked _ _ (λ e. e.0) y)) m)))

-- a row that the filter keeps is at most a literal that it has to stay below
abbrev HighKept : ℕ → List Value → Checked → Type 0
HighKept c row f = (v : Value) → holds f row ≡ true → IsAmong v (highs c f) → cell_most (Some v) (slice_get row c) ≡ true

high-level : (c : ℕ) (row : List Value) (v : Value) (y : Checked-F ((f : Checked) × HighKept c row f))
    → keeps row (map-Checked Checked Bool (λ f. holds f row) (map-Checked ((f : Checked) × HighKept c row f) Checked (λ e. e.0) y)) ≡ true
    → IsAmong v (highs_at c (map-Checked Checked (List Value) (highs c) (map-Checked ((f : Checked) × HighKept c row f) Checked (λ e. e.0) y))) → cell_most (Some v) (slice_get row c) ≡ true
high-level c row v (Test at cmp value) h m = high-test c at cmp value v row h m
high-level c row v (Both f g) h m =
    let w = and_parts (holds f.0 row) (holds g.0 row) h in
    elim (among-append v (highs c f.0) (highs c g.0) m) [ inl l ↦ f.1 v w.0 l | inr r ↦ g.1 v w.1 r ]
high-level c row v (Either f g) h m = absurd m
high-level c row v (Not f) h m = absurd m

high-kept : (c : ℕ) (row : List Value) (f : Checked) → HighKept c row f
high-kept c row = ind-Checked (HighKept c row) (λ x y is.
    subst (λ z. HighKept c row (roll-Checked z)) is (λ v h m.
    high-level c row v y (sym (fold-roll-Checked Bool (keeps row) (map-Checked _ _ (λ e. e.0) y)) ∙ h)
    (subst (IsAmong v) (fold-roll-Checked (List Value) (highs_at c) (map-Checked _ _ (λ e. e.0) y)) m)))

low-within : (c : ℕ) (filter : Checked) (low : Option Value) (row : List Value) → IsGreatest low (lows c filter) → holds filter row ≡ true → cell_below low (slice_get row c) ≡ false
low-within c filter None row g h = refl
low-within c filter (Some v) row g h = low-kept c row filter v h g.0

high-within : (c : ℕ) (filter : Checked) (high : Option Value) (row : List Value) → IsLeast high (highs c filter) → holds filter row ≡ true → cell_most high (slice_get row c) ≡ true
high-within c filter None row g h = refl
high-within c filter (Some v) row g h = high-kept c row filter v h g.0

pub kept-within : (key : List ℕ) (filter : Checked) (range : KeyRange) (row : List Value) → IsRangeOf key filter range → holds filter row ≡ true → IsWithin range.low range.high key row
kept-within [] filter range row r h = (ap (λ (low : Option Value). cell_below low None) r.0, ap (λ (high : Option Value). cell_most high None) r.1)
kept-within (c ∷ cs) filter range row r h = (low-within c filter range.low row r.0 h, high-within c filter range.high row r.1 h)
