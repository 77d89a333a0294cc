-- A row after the sets of an UPDATE: its values, and their types.
use Rattle.std.proofs.Common.{◌≡◌, ℕ, zero, suc, ◌+◌, ◌<◌, Bool, true, false, cond, List, [], ◌∷◌, map, length, slice_get, get_or, nat_eq, refl, sym, ap, ◌∙◌, subst, arith}
use Rattle.std.proofs.lemmas.Bool.Decides.{nat_tests}
use Rattle.std.specs.Option.{option_map, unwrap_or}
use Rattle.std.specs.declared.option.Option.{Option}
use Rattle.std.specs.declared.option.Option.TheVariants.{Some, None}
use Rattle.rmt_values.specs.declared.value.Value.{Value}
use Rattle.rmt_values.specs.declared.value.Value.TheVariants.{UInt, Int, Text}
use Rattle.rmt_values.specs.declared.kind.Kind.{Kind}
use Rattle.rmt_values.specs.declared.column.Column.{Column}
use Rattle.rmt_values.specs.declared.checked_right.CheckedRight.{CheckedRight}
use Rattle.rmt_values.specs.declared.checked_right.CheckedRight.TheVariants as right
use Rattle.rmt_values.specs.Rows.{Shape, kind_of, kind_at}
use Rattle.rmt_values.specs.Filters.{IsOfColumn}
use Rattle.rmt_values.specs.Commands.{plus, minus, set_from, new_value, updated_from, RightFits, SetFits, SetsFit, AreAlike, AddsUp}
use Rattle.rmt_columns.specs.RowsByColumn.{HaveKinds, kinds_in}
use Rattle.rmt_expr.specs.Updates.{row_with}

-- ---- its values

-- the value of a column after an update
pub updated-at : (i : ℕ) (sets : List (ℕ × CheckedRight)) (row vs : List Value) (j : ℕ) → slice_get (updated_from i sets row vs) j ≡ option_map (λ v. new_value (set_from sets (i + j)) row v) (slice_get vs j)
updated-at i sets row [] j = refl
updated-at i sets row (v ∷ vs) zero = let e : i + 0 ≡ i = omega arith in rw e refl
updated-at i sets row (v ∷ vs) (suc j) = let e : i + suc j ≡ i + 1 + j = omega arith in rw e (updated-at (i + 1) sets row vs j)

cell-with : (sets : List (ℕ × CheckedRight)) (rows : List (List Value)) (i c : ℕ) (o : Option Value) (s : Option CheckedRight)
    → o ≡ slice_get (get_or rows i []) c → s ≡ set_from sets c → option_map (λ v. new_value s (get_or rows i []) v) o ≡ slice_get (row_with sets rows i) c
cell-with sets rows i c o s e f =
    let z : 0 + c ≡ c = omega arith in
    let row = get_or rows i [] in
    ap (λ (x : Option CheckedRight). option_map (λ v. new_value x row v) o) (f ∙ ap (set_from sets) (sym z))
    ∙ (ap (option_map (λ v. new_value (set_from sets (0 + c)) row v)) e ∙ sym (updated-at 0 sets row row c))

-- a value that is set
pub cell-set : (sets : List (ℕ × CheckedRight)) (rows : List (List Value)) (i c : ℕ) (old new : Value) (r : CheckedRight)
    → Some old ≡ slice_get (get_or rows i []) c → Some r ≡ set_from sets c → new ≡ new_value (Some r) (get_or rows i []) old → Some new ≡ slice_get (row_with sets rows i) c
cell-set sets rows i c old new r e f g = ap (λ (v : Value). Some v) g ∙ cell-with sets rows i c (Some old) (Some r) e f

-- a value that isn't set
pub cell-old : (sets : List (ℕ × CheckedRight)) (rows : List (List Value)) (i c : ℕ) (o : Option Value)
    → o ≡ slice_get (get_or rows i []) c → None ≡ set_from sets c → o ≡ slice_get (row_with sets rows i) c
cell-old sets rows i c o e f = stays o ∙ cell-with sets rows i c o None e f
  where
    stays : (o : Option Value) → o ≡ option_map (λ v. new_value None (get_or rows i []) v) o
    stays None = refl
    stays (Some v) = refl

-- a value that isn't there
pub cell-none : (sets : List (ℕ × CheckedRight)) (rows : List (List Value)) (i c : ℕ)
    → None ≡ slice_get (get_or rows i []) c → None ≡ slice_get (row_with sets rows i) c
cell-none sets rows i c e = cell-with sets rows i c None (set_from sets c) e refl

-- with no sets, the row stays
pub updated-none : (i : ℕ) (row vs : List Value) → updated_from i [] row vs ≡ vs
updated-none i row [] = refl
updated-none i row (v ∷ vs) = ap (λ (l : List Value). v ∷ l) (updated-none (i + 1) row vs)

-- ---- their types

kind-in : (columns : List Column) (row : List Value) (c : ℕ) → map kind_of row ≡ kinds_in columns → kind_at columns c ≡ option_map kind_of (slice_get row c)
kind-in [] [] c e = refl
kind-in [] (v ∷ vs) c e = absurd (cc)
kind-in (x ∷ xs) [] c e = absurd (cc)
kind-in (x ∷ xs) (v ∷ vs) zero e = cc
kind-in (x ∷ xs) (v ∷ vs) (suc c) e = kind-in xs vs c (cc)

kind-plus : (v by : Value) → kind_of (plus v by) ≡ kind_of v
kind-plus (UInt a) (UInt b) = refl
kind-plus (UInt a) (Int b) = refl
kind-plus (UInt a) (Text b) = refl
kind-plus (Int a) (UInt b) = refl
kind-plus (Int a) (Int b) = refl
kind-plus (Int a) (Text b) = refl
kind-plus (Text a) by = refl

kind-minus : (v by : Value) → kind_of (minus v by) ≡ kind_of v
kind-minus (UInt a) (UInt b) = refl
kind-minus (UInt a) (Int b) = refl
kind-minus (UInt a) (Text b) = refl
kind-minus (Int a) (UInt b) = refl
kind-minus (Int a) (Int b) = refl
kind-minus (Int a) (Text b) = refl
kind-minus (Text a) by = refl

-- what a column is set to fits it
pub right-of : (shape : Shape) (sets : List (ℕ × CheckedRight)) (c : ℕ) (r : CheckedRight) → SetsFit shape sets → set_from sets c ≡ Some r → RightFits shape c r
right-of shape [] c r h e = absurd (cc)
right-of shape (s ∷ ss) c r h e = go (nat_eq s.0 c) refl e (right-of shape ss c r h.2)
  where
    go : (b : Bool) → nat_eq s.0 c ≡ b → cond b (Some s.1) (set_from ss c) ≡ Some r → (set_from ss c ≡ Some r → RightFits shape c r) → RightFits shape c r
    go true q i f =
        let z : s.0 ≡ c = grind (arith, nat_tests) in
        let k : s.1 ≡ r = cc in
        subst (RightFits shape c) k (subst (λ n. RightFits shape n s.1) z (SetFits.value h.0))
    go false q i f = f i

kind-of-cell : (o : Option Value) (old : Value) (k : Kind) → option_map kind_of o ≡ Some k → kind_of (unwrap_or o old) ≡ k
kind-of-cell None old k e = absurd (cc)
kind-of-cell (Some v) old k e = cc

kind-alike : (shape : Shape) (row : List Value) (c d : ℕ) (old : Value) → map kind_of row ≡ kinds_in shape.columns → slice_get row c ≡ Some old
    → AreAlike shape c d → kind_of (unwrap_or (slice_get row d) old) ≡ kind_of old
kind-alike shape row c d old h e a =
    let k : Some (AreAlike.kind a) ≡ Some (kind_of old) = sym a.first ∙ (kind-in shape.columns row c h ∙ ap (option_map kind_of) e) in
    let l : AreAlike.kind a ≡ kind_of old = cc in
    kind-of-cell (slice_get row d) old (AreAlike.kind a) (sym (kind-in shape.columns row d h) ∙ a.second) ∙ l

kind-kept : (shape : Shape) (sets : List (ℕ × CheckedRight)) (row : List Value) (c : ℕ) (old : Value) → SetsFit shape sets → map kind_of row ≡ kinds_in shape.columns
    → slice_get row c ≡ Some old → kind_of (new_value (set_from sets c) row old) ≡ kind_of old
kind-kept shape sets row c old h f e = go (set_from sets c) (λ r q. right-of shape sets c r h q)
  where
    go : (o : Option CheckedRight) → ((r : CheckedRight) → o ≡ Some r → RightFits shape c r) → kind_of (new_value o row old) ≡ kind_of old
    go None g = refl
    go (Some (right.Literal v)) g =
        let r = g (right.Literal v) refl in
        let k : Some (kind_of v) ≡ Some (kind_of old) = sym (IsOfColumn.kind r) ∙ (kind-in shape.columns row c f ∙ ap (option_map kind_of) e) in
        cc
    go (Some (right.Column d)) g = kind-alike shape row c d old f e (g (right.Column d) refl)
    go (Some (right.Plus d by)) g = kind-plus (unwrap_or (slice_get row d) old) by ∙ kind-alike shape row c d old f e (AddsUp.alike (g (right.Plus d by) refl))
    go (Some (right.Minus d by)) g = kind-minus (unwrap_or (slice_get row d) old) by ∙ kind-alike shape row c d old f e (AddsUp.alike (g (right.Minus d by) refl))

kinds-kept : (i : ℕ) (sets : List (ℕ × CheckedRight)) (row vs : List Value) → ((j : ℕ) (v : Value) → slice_get vs j ≡ Some v → kind_of (new_value (set_from sets (i + j)) row v) ≡ kind_of v)
    → map kind_of (updated_from i sets row vs) ≡ map kind_of vs
kinds-kept i sets row [] h = refl
kinds-kept i sets row (v ∷ vs) h =
    let z : i + 0 ≡ i = omega arith in
    let first : kind_of (new_value (set_from sets i) row v) ≡ kind_of v = subst (λ n. kind_of (new_value (set_from sets n) row v) ≡ kind_of v) z (h 0 v refl) in
    let rest = kinds-kept (i + 1) sets row vs (λ j w e. let s : i + suc j ≡ i + 1 + j = omega arith in subst (λ n. kind_of (new_value (set_from sets n) row w) ≡ kind_of w) s (h (suc j) w e)) in
    ap (λ (k : Kind). k ∷ map kind_of (updated_from (i + 1) sets row vs)) first ∙ ap (λ (l : List Kind). kind_of v ∷ l) rest

have-at : (kinds : List Kind) (rows : List (List Value)) (i : ℕ) → HaveKinds kinds rows → i < length rows → map kind_of (get_or rows i []) ≡ kinds
have-at kinds [] i h p = absurd (omega (arith, p))
have-at kinds (r ∷ rs) zero h p = h.0
have-at kinds (r ∷ rs) (suc i) h p = have-at kinds rs i h.1 (omega (arith, p))

-- a row has the types of the columns still
pub row-typed : (shape : Shape) (sets : List (ℕ × CheckedRight)) (rows : List (List Value)) (kinds : List Kind) (i : ℕ) → SetsFit shape sets → kinds ≡ kinds_in shape.columns
    → HaveKinds kinds rows → i < length rows → map kind_of (row_with sets rows i) ≡ kinds
row-typed shape sets rows kinds i h k t p =
    let row = get_or rows i [] in
    let typed = have-at kinds rows i t p in
    kinds-kept 0 sets row row (λ j v e. let z : j ≡ 0 + j = omega arith in subst (λ n. kind_of (new_value (set_from sets n) row v) ≡ kind_of v) z (kind-kept shape sets row j v h (typed ∙ k) e))
    ∙ typed

-- no sets fit too
pub due-fit : (shape : Shape) (sets due : List (ℕ × CheckedRight)) (b : Bool) → SetsFit shape sets → due ≡ cond b sets [] → SetsFit shape due
due-fit shape sets due true h e = subst (SetsFit shape) (sym e) h
due-fit shape sets due false h e = subst (SetsFit shape) (sym e) tt
