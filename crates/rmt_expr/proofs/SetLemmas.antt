-- Sets of an UPDATE: their checked forms, one after the other.
use Rattle.std.proofs.Common.{◌≡◌, ℕ, ◌<◌, length, arith, true, false, Bool, List, [], ◌∷◌, ◌++◌, refl, sym, ap, ◌∙◌}
use Rattle.std.specs.declared.option.Option.TheVariants.{Some, None}
use Rattle.std.proofs.lemmas.List.{append_assoc, append-nil}
use Rattle.rmt_values.specs.declared.value.Value.{Value}
use Rattle.rmt_values.specs.declared.kind.Kind.{Kind}
use Rattle.rmt_values.specs.declared.right.Right.{Right}
use Rattle.rmt_values.specs.declared.checked_right.CheckedRight.{CheckedRight}
use Rattle.rmt_values.specs.Rows.{Shape, kind_at, kind_of, is_value}
use Rattle.rmt_values.specs.Commands.{AddsUp, is_number}
use Rattle.std.proofs.lemmas.Bool.Decides.{nat_tests}
use Rattle.std.proofs.Common.{◌+◌, ◌≤◌, cond, nat_eq}
use Rattle.std.specs.Prelude.{◌||◌}
use Rattle.std.specs.Str.{bytes_eq}
use Rattle.std.specs.Cmp.Lexicographic.{same_text, other_text}
use Rattle.rmt_values.specs.declared.column.Column.{Column}
use Rattle.rmt_values.specs.Rows.{place_from}
use Rattle.rmt_values.specs.Schemas.{has_name, first_double}
use Rattle.rmt_values.specs.Commands.{SetsFit, SetFits, RightFits, SetsNot, NotAmong, rule_columns}
use Rattle.rmt_expr.specs.Mutations.{AreSets, lefts, among, is_fixed, fixed_in_sets}
use Rattle.rmt_expr.specs.Placed.{IsPlaced, ArePlaced}
use Rattle.rmt_expr.proofs.Progress.{SetsGoOn}

-- what is of one type of numbers adds up
pub adds_up : (s : Shape) (target place : ℕ) (v : Value) (kind : Kind)
    → kind_at s.columns target ≡ Some kind → kind_at s.columns place ≡ Some kind → is_number kind ≡ true
    → kind_of v ≡ kind → is_value v ≡ true → AddsUp s target place v
adds_up s target place v kind a b n k i = record {
  alike = record { kind = kind; first = a; second = b };
  number = n;
  by_is = record { kind = cc; is_value = i };
}

-- before the first set, nothing is placed
pub starts : (s : Shape) (all : List (List ℕ × Right)) → SetsGoOn s all all []
starts s all = record { goes_on = λ more h. h }

-- one more set is placed
pub goes_further : (s : Shape) (all rest : List (List ℕ × Right)) (placed : List (ℕ × CheckedRight)) (x : List ℕ × Right) (t : ℕ × CheckedRight)
    → SetsGoOn s all (x ∷ rest) placed → IsPlaced s x.0 x.1 t.0 t.1 → SetsGoOn s all rest (placed ++ t ∷ [])
goes_further s all rest placed x t g p = record { goes_on = λ more h. rw append_assoc (g.goes_on (t ∷ more) (p, h)) }

-- after the last set, all are placed
pub all_placed : (s : Shape) (all rest : List (List ℕ × Right)) (placed : List (ℕ × CheckedRight))
    → SetsGoOn s all rest placed → length rest < 1 → ArePlaced s all placed
all_placed s all [] placed g h = rw append-nil at (g.goes_on [] tt)
all_placed s all (x ∷ rest) placed g h = absurd (omega arith)

-- a column's place is counted from the start
place-above : (i : ℕ) (cs : List Column) (n : List ℕ) (p : ℕ) → place_from i cs n ≡ Some p → i ≤ p
place-above i [] n p e = absurd (cc e)
place-above i (c ∷ cs) n p e = go (bytes_eq c.name n) e (place-above (i + 1) cs n p) where
  go : (b : Bool) → cond b (Some i) (place_from (i + 1) cs n) ≡ Some p → (place_from (i + 1) cs n ≡ Some p → (i + 1) ≤ p) → i ≤ p
  go true e r = let f : i ≡ p = cc e in omega (arith, f)
  go false e r = let f = r e in omega (arith, f)

-- names of columns at one place are one
same-place : (i : ℕ) (cs : List Column) (n m : List ℕ) (p : ℕ) → place_from i cs n ≡ Some p → place_from i cs m ≡ Some p → n ≡ m
same-place i [] n m p e f = absurd (cc e)
same-place i (c ∷ cs) n m p e f =
    go (bytes_eq c.name n) (bytes_eq c.name m) refl refl e f (place-above (i + 1) cs n p) (place-above (i + 1) cs m p) (same-place (i + 1) cs n m p)
  where
    go : (a b : Bool) → a ≡ bytes_eq c.name n → b ≡ bytes_eq c.name m
        → cond a (Some i) (place_from (i + 1) cs n) ≡ Some p → cond b (Some i) (place_from (i + 1) cs m) ≡ Some p
        → (place_from (i + 1) cs n ≡ Some p → (i + 1) ≤ p) → (place_from (i + 1) cs m ≡ Some p → (i + 1) ≤ p)
        → (place_from (i + 1) cs n ≡ Some p → place_from (i + 1) cs m ≡ Some p → n ≡ m) → n ≡ m
    go true true u v e f l r g = sym (same_text c.name n u) ∙ same_text c.name m v
    go true false u v e f l r g = absurd (let h = r f in let k : i ≡ p = cc e in omega (arith, h, k))
    go false true u v e f l r g = absurd (let h = l e in let k : i ≡ p = cc f in omega (arith, h, k))
    go false false u v e f l r g = g e f

-- a name that no set has on its left is set by none
set-by-none : (s : Shape) (n : List ℕ) (p : ℕ) → place_from 0 s.columns n ≡ Some p
    → (xs : List (List ℕ × Right)) (ts : List (ℕ × CheckedRight)) → ArePlaced s xs ts → has_name (lefts xs) n ≡ false → SetsNot p ts
set-by-none s n p e [] [] h d = tt
set-by-none s n p e [] (t ∷ ts) h d = absurd h
set-by-none s n p e (x ∷ xs) [] h d = absurd h
set-by-none s n p e (x ∷ xs) (t ∷ ts) h d = go (bytes_eq x.0 n) refl d (set-by-none s n p e xs ts h.1) where
  go : (b : Bool) → b ≡ bytes_eq x.0 n → (b || has_name (lefts xs) n) ≡ false → (has_name (lefts xs) n ≡ false → SetsNot p ts) → SetsNot p (t ∷ ts)
  go true u d r = absurd (cc d)
  go false u d r = ((λ k. other_text x.0 n u (same-place 0 s.columns x.0 n p (h.0.set.column.there ∙ ap (λ q. Some q) k) e)), r d)

-- numbers that a test tells apart differ
differ : (k p : ℕ) → false ≡ nat_eq k p → k ≡ p → ⊥
differ k p u e = grind (arith, nat_tests)

-- neither of two tests holds
or_none : (a b : Bool) → a || b ≡ false → (a ≡ false) × (b ≡ false)
or_none true b h = absurd (cc)
or_none false b h = (refl, h)

-- what isn't among these is none of them
none-of : (key : List ℕ) (p : ℕ) → among key p ≡ false → NotAmong key p
none-of [] p h = tt
none-of (k ∷ ks) p h = go (nat_eq k p) refl h (none-of ks p) where
  go : (b : Bool) → b ≡ nat_eq k p → (b || among ks p) ≡ false → (among ks p ≡ false → NotAmong ks p) → NotAmong (k ∷ ks) p
  go true u h r = absurd (cc h)
  go false u h r = (differ k p u, r h)

-- a column that may be set to what fits it
set_fits : (s : Shape) (p : ℕ) (what : CheckedRight) → is_fixed s (Some p) ≡ false → RightFits s p what → SetFits s p what
set_fits s p what free fits =
    let both = or_none (among s.key p) (among (rule_columns s.partition) p) free in
    record { no_key = none-of s.key p both.0; no_partition = none-of (rule_columns s.partition) p both.1; value = fits }

-- checked forms of sets, none of them twice and none of a fixed column, fit the schema
pub sets_fit : (s : Shape) (xs : List (List ℕ × Right)) (ts : List (ℕ × CheckedRight)) → ArePlaced s xs ts
    → first_double (lefts xs) ≡ None → fixed_in_sets s xs ≡ None → SetsFit s ts
sets_fit s [] [] h d k = tt
sets_fit s [] (t ∷ ts) h d k = absurd h
sets_fit s (x ∷ xs) [] h d k = absurd h
sets_fit s (x ∷ xs) (t ∷ ts) h d k =
    go (has_name (lefts xs) x.0) refl d (is_fixed s (place_from 0 s.columns x.0)) refl k (sets_fit s xs ts h.1)
  where
    go : (a : Bool) → has_name (lefts xs) x.0 ≡ a → cond a (Some x.0) (first_double (lefts xs)) ≡ None
        → (b : Bool) → is_fixed s (place_from 0 s.columns x.0) ≡ b → cond b (Some x.0) (fixed_in_sets s xs) ≡ None
        → (first_double (lefts xs) ≡ None → fixed_in_sets s xs ≡ None → SetsFit s ts) → SetsFit s (t ∷ ts)
    go true u d b v k r = absurd (cc d)
    go false u d true v k r = absurd (cc k)
    go false u d false v k r = (
      set_fits s t.0 t.1 (ap (is_fixed s) (sym h.0.set.column.there) ∙ v) h.0.fits,
      set-by-none s x.0 t.0 h.0.set.column.there xs ts h.1 u,
      r d k,
    )

-- checked forms of sets that fit are checked forms
pub are_sets : (s : Shape) (xs : List (List ℕ × Right)) (ts : List (ℕ × CheckedRight)) → ArePlaced s xs ts → AreSets s xs ts
are_sets s [] [] h = tt
are_sets s [] (t ∷ ts) h = absurd h
are_sets s (x ∷ xs) [] h = absurd h
are_sets s (x ∷ xs) (t ∷ ts) h = (h.0.set, are_sets s xs ts h.1)
