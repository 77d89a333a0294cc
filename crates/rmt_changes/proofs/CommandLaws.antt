-- What a command leaves of a row: its key, and that it fits its schema.
use Rattle.std.proofs.Common.{◌≡◌, ℕ, zero, suc, ◌+◌, ◌&&◌, Bool, true, false, cond, List, [], ◌∷◌, slice_get, refl, sym, ap, subst, arith, ◌∙◌, nat_eq}
use Rattle.std.proofs.lemmas.Bool.Decides.{nat_tests}
use Rattle.std.specs.Option.{option_map, unwrap_or}
use Rattle.std.specs.declared.option.Option.{Option}
use Rattle.std.specs.declared.option.Option.TheVariants.{Some, None}
use Rattle.rmt_values.specs.declared.value.Value.{Value}
use Rattle.rmt_values.specs.declared.value.Value.TheVariants.{UInt, Int}
use Rattle.rmt_values.specs.declared.kind.Kind.{Kind}
use Rattle.rmt_values.specs.declared.kind.Kind.TheVariants as kinds
use Rattle.rmt_values.specs.declared.column.Column.{Column}
use Rattle.rmt_values.specs.declared.checked_right.CheckedRight.{CheckedRight}
use Rattle.rmt_values.specs.declared.checked_right.CheckedRight.TheVariants as right
use Rattle.rmt_values.specs.declared.checked_mutation.CheckedMutation.{CheckedMutation}
use Rattle.rmt_values.specs.declared.checked_mutation.CheckedMutation.TheVariants.{Update, Delete}
use Rattle.rmt_values.specs.Rows.{Shape, kind_of, is_value, same_kind, is_of, fits, kind_at, key_of}
use Rattle.rmt_values.specs.Filters.{holds, IsOfColumn}
use Rattle.rmt_values.specs.Commands.{plus, minus, set_from, new_value, updated_from, applied, RightFits, NotAmong, SetFits, SetsFit, AreAlike, AddsUp, CommandFits}
use Rattle.rmt_expr.proofs.UpdateLemmas.{updated-at, right-of}

-- none of these columns is set
abbrev pub Unset : List ℕ → List (ℕ × CheckedRight) → Type 0
Unset columns [] = Unit {0}
Unset columns (s ∷ ss) = NotAmong columns s.0 × Unset columns ss

key-unset : (shape : Shape) (sets : List (ℕ × CheckedRight)) → SetsFit shape sets → Unset shape.key sets
key-unset shape [] h = tt
key-unset shape (s ∷ ss) h = (SetFits.no_key h.0, key-unset shape ss h.2)

first-unset : (c : ℕ) (cs : List ℕ) (sets : List (ℕ × CheckedRight)) → Unset (c ∷ cs) sets → set_from sets c ≡ None
first-unset c cs [] h = refl
first-unset c cs (s ∷ ss) h = go (nat_eq s.0 c) refl (first-unset c cs ss h.1)
  where
    go : (b : Bool) → nat_eq s.0 c ≡ b → set_from ss c ≡ None → cond b (Some s.1) (set_from ss c) ≡ None
    go true e i = absurd (h.0.0 (grind (arith, nat_tests)))
    go false e i = i

rest-unset : (c : ℕ) (cs : List ℕ) (sets : List (ℕ × CheckedRight)) → Unset (c ∷ cs) sets → Unset cs sets
rest-unset c cs [] h = tt
rest-unset c cs (s ∷ ss) h = (h.0.1, rest-unset c cs ss h.1)

old-cell : (o : Option Value) (row : List Value) → option_map (λ v. new_value None row v) o ≡ o
old-cell None row = refl
old-cell (Some v) row = refl

update-keeps : (columns : List ℕ) (sets : List (ℕ × CheckedRight)) (row : List Value) → Unset columns sets → key_of columns (updated_from 0 sets row row) ≡ key_of columns row
update-keeps [] sets row h = refl
update-keeps (c ∷ cs) sets row h =
    ap (λ (o : Option Value). o ∷ key_of cs (updated_from 0 sets row row)) (cell (first-unset c cs sets h))
    ∙ ap (λ (os : List (Option Value)). slice_get row c ∷ os) (update-keeps cs sets row (rest-unset c cs sets h))
  where
    cell : set_from sets c ≡ None → slice_get (updated_from 0 sets row row) c ≡ slice_get row c
    cell e =
        let z : 0 + c ≡ c = omega arith in
        updated-at 0 sets row row c
        ∙ (ap (λ n. option_map (λ v. new_value (set_from sets n) row v) (slice_get row c)) z
        ∙ (ap (λ (o : Option CheckedRight). option_map (λ v. new_value o row v) (slice_get row c)) e ∙ old-cell (slice_get row c) row))

pub some-one : {A : Type 0} (a b : A) → ◌≡◌ {A = Option A} (Some a) (Some b) → a ≡ b
some-one a b e = cc

-- a command leaves the key
pub applied-key : (shape : Shape) (command : CheckedMutation) (row row' : List Value) → CommandFits shape command → applied command row ≡ Some row' → key_of shape.key row' ≡ key_of shape.key row
unfolding applied
applied-key shape (Update sets filter) row row' f e = go (holds filter row) e
  where
    go : (b : Bool) → cond b (Some (updated_from 0 sets row row)) (Some row) ≡ Some row' → key_of shape.key row' ≡ key_of shape.key row
    go true q = ap (key_of shape.key) (sym (some-one (updated_from 0 sets row row) row' q)) ∙ update-keeps shape.key sets row (key-unset shape sets f.0)
    go false q = ap (key_of shape.key) (sym (some-one row row' q))
applied-key shape (Delete filter) row row' f e = go (holds filter row) e
  where
    go : (b : Bool) → cond b None (Some row) ≡ Some row' → key_of shape.key row' ≡ key_of shape.key row
    go true q = absurd (cc)
    go false q = ap (key_of shape.key) (sym (some-one row row' q))

-- ---- what fits

same-itself : (k : Kind) → same_kind k k ≡ true
same-itself kinds.UInt64 = refl
same-itself kinds.Int64 = refl
same-itself kinds.Text = refl

plus-is : (k : Kind) (v by : Value) → is_of k v ≡ true → is_of k (plus v by) ≡ true
plus-is k (UInt a) (UInt b) h = h
plus-is k (Int a) (Int b) h = h
plus-is k v by h = h

minus-is : (k : Kind) (v by : Value) → is_of k v ≡ true → is_of k (minus v by) ≡ true
minus-is k (UInt a) (UInt b) h = h
minus-is k (Int a) (Int b) h = h
minus-is k v by h = h

-- the value of a column of a row that fits
pub record Cell (row : List Value) (column : ℕ) (k : Kind) : Type 0 where
  pub value : Value
  pub stands : slice_get row column ≡ Some value
  pub is : is_of k value ≡ true

both-true : (a b : Bool) → (a && b) ≡ true → (a ≡ true) × (b ≡ true)
both-true true b h = (refl, h)
both-true false b h = absurd (cc)

cell-at : (columns : List Column) (row : List Value) (c : ℕ) (k : Kind) → fits columns row ≡ true → kind_at columns c ≡ Some k → Cell row c k
cell-at [] [] c k f e = absurd (cc)
cell-at [] (v ∷ vs) c k f e = absurd (cc)
cell-at (x ∷ xs) [] c k f e = absurd (cc)
cell-at (x ∷ xs) (v ∷ vs) zero k f e = record { value = v; stands = refl; is = subst (λ (k : Kind). is_of k v ≡ true) (some-one x.kind k e) (both-true (is_of x.kind v) (fits xs vs) f).0 }
cell-at (x ∷ xs) (v ∷ vs) (suc c) k f e =
    let r = cell-at xs vs c k (both-true (is_of x.kind v) (fits xs vs) f).1 e in record { value = r.value; stands = r.stands; is = r.is }

cell-of : (shape : Shape) (row : List Value) (target c : ℕ) (k : Kind) (old : Value) → fits shape.columns row ≡ true → AreAlike shape target c → kind_at shape.columns target ≡ Some k → is_of k (unwrap_or (slice_get row c) old) ≡ true
cell-of shape row target c k old f a e =
    let same : AreAlike.kind a ≡ k = some-one (AreAlike.kind a) k (sym a.first ∙ e) in
    let r = cell-at shape.columns row c k f (a.second ∙ ap Some same) in
    subst (λ (o : Option Value). is_of k (unwrap_or o old) ≡ true) (sym r.stands) r.is

new-fits : (shape : Shape) (sets : List (ℕ × CheckedRight)) (row : List Value) (c : ℕ) (k : Kind) (old : Value) → SetsFit shape sets → fits shape.columns row ≡ true → kind_at shape.columns c ≡ Some k → is_of k old ≡ true → is_of k (new_value (set_from sets c) row old) ≡ true
new-fits shape sets row c k old h f e i = go (set_from sets c) (right-of shape sets c)
  where
    go : (o : Option CheckedRight) → ((r : CheckedRight) → SetsFit shape sets → o ≡ Some r → RightFits shape c r) → is_of k (new_value o row old) ≡ true
    go None g = i
    go (Some (right.Literal v)) g =
        let r = g (right.Literal v) h refl in
        let same : kind_of v ≡ k = some-one (kind_of v) k (sym (IsOfColumn.kind r) ∙ e) in
        subst (λ (k : Kind). (same_kind (kind_of v) k && is_value v) ≡ true) same (rw (same-itself (kind_of v)) (IsOfColumn.is_value r))
    go (Some (right.Column d)) g = cell-of shape row c d k old f (g (right.Column d) h refl) e
    go (Some (right.Plus d by)) g = plus-is k (unwrap_or (slice_get row d) old) by (cell-of shape row c d k old f (AddsUp.alike (g (right.Plus d by) h refl)) e)
    go (Some (right.Minus d by)) g = minus-is k (unwrap_or (slice_get row d) old) by (cell-of shape row c d k old f (AddsUp.alike (g (right.Minus d by) h refl)) e)

update-fits : (i : ℕ) (sets : List (ℕ × CheckedRight)) (row : List Value) (columns : List Column) (vs : List Value) → fits columns vs ≡ true → ((j : ℕ) (k : Kind) (v : Value) → kind_at columns j ≡ Some k → is_of k v ≡ true → is_of k (new_value (set_from sets (i + j)) row v) ≡ true) → fits columns (updated_from i sets row vs) ≡ true
update-fits i sets row [] [] f h = refl
update-fits i sets row [] (v ∷ vs) f h = absurd (cc)
update-fits i sets row (x ∷ xs) [] f h = absurd (cc)
update-fits i sets row (x ∷ xs) (v ∷ vs) f h =
    let b = both-true (is_of x.kind v) (fits xs vs) f in
    let z : i + 0 ≡ i = omega arith in
    let head : is_of x.kind (new_value (set_from sets i) row v) ≡ true = subst (λ n. is_of x.kind (new_value (set_from sets n) row v) ≡ true) z (h 0 x.kind v refl b.0) in
    rw head (update-fits (i + 1) sets row xs vs b.1 (λ j k w e q. let s : i + suc j ≡ i + 1 + j = omega arith in subst (λ n. is_of k (new_value (set_from sets n) row w) ≡ true) s (h (suc j) k w e q)))

-- a row that fits is left one that fits
pub applied-fits : (shape : Shape) (command : CheckedMutation) (row row' : List Value) → CommandFits shape command → fits shape.columns row ≡ true → applied command row ≡ Some row' → fits shape.columns row' ≡ true
unfolding applied
applied-fits shape (Update sets filter) row row' c f e = go (holds filter row) e
  where
    go : (b : Bool) → cond b (Some (updated_from 0 sets row row)) (Some row) ≡ Some row' → fits shape.columns row' ≡ true
    go true q =
        ap (fits shape.columns) (sym (some-one (updated_from 0 sets row row) row' q))
        ∙ update-fits 0 sets row shape.columns row f (λ j k v g i. let z : j ≡ 0 + j = omega arith in subst (λ n. is_of k (new_value (set_from sets n) row v) ≡ true) z (new-fits shape sets row j k v c.0 f g i))
    go false q = ap (fits shape.columns) (sym (some-one row row' q)) ∙ f
applied-fits shape (Delete filter) row row' c f e = go (holds filter row) e
  where
    go : (b : Bool) → cond b None (Some row) ≡ Some row' → fits shape.columns row' ≡ true
    go true q = absurd (cc)
    go false q = ap (fits shape.columns) (sym (some-one row row' q)) ∙ f
