-- Tests against bounds part the marks.
use Rattle.std.proofs.Common.{◌≡◌, ℕ, zero, suc, ◌<◌, ◌≤◌, Bool, true, false, not, List, [], ◌∷◌, length, get_or, slice_get, is_lt, refl, ap, arith}
use Rattle.std.specs.declared.option.Option.{Option}
use Rattle.std.specs.declared.option.Option.TheVariants.{Some, None}
use Rattle.std.specs.declared.cmp.Ordering.{Ordering}
use Rattle.std.specs.declared.cmp.Ordering.TheVariants.{Less, Equal, Greater}
use Rattle.std.specs.Ordering.{is_gt, ordering_reverse}
use Rattle.std.specs.Cmp.{IsTotalOrder}
use Rattle.std.specs.List.Sorted.{IsPartitionedBy}
use Rattle.std.proofs.lemmas.Cmp.{tied_itself, on_total, upto as upto_total}
use Rattle.rmt_values.specs.declared.value.Value.{Value}
use Rattle.rmt_values.specs.Rows.{cell_cmp}
use Rattle.rmt_values.proofs.Totals.{cell_cmp_total}
use Rattle.rmt_granules.specs.Granules.{first_cmp, AboveNone, Rising}
use Rattle.rmt_keyrange.specs.Chosen.{cell_most, cell_below, at_most, is_below}

first_cmp_total : IsTotalOrder first_cmp
first_cmp_total = on_total (λ (m : List Value). slice_get m 0) cell_cmp_total

none-at : (m : List Value) (ms : List (List Value)) (j : ℕ) (d : List Value) → AboveNone m ms → j < length ms → is_gt (first_cmp m (get_or ms j d)) ≡ false
none-at m [] j d h p = absurd (omega (arith, p))
none-at m (k ∷ ks) zero d h p = h.0
none-at m (k ∷ ks) (suc j) d h p = none-at m ks j d h.1 (omega (arith, p))

rising-at : (ms : List (List Value)) (i j : ℕ) (d : List Value) → Rising ms → i ≤ j → j < length ms → is_gt (first_cmp (get_or ms i d) (get_or ms j d)) ≡ false
rising-at [] i j d h p q = absurd (omega (arith, q))
rising-at (m ∷ ms) zero zero d h p q = ap is_gt (tied_itself first_cmp_total m)
rising-at (m ∷ ms) zero (suc j) d h p q = none-at m ms j d h.0 (omega (arith, q))
rising-at (m ∷ ms) (suc i) zero d h p q = absurd (omega (arith, p))
rising-at (m ∷ ms) (suc i) (suc j) d h p q = rising-at ms i j d h.1 (omega (arith, p)) (omega (arith, q))

not-not : (b : Bool) → not b ≡ true → b ≡ false
not-not true h = absurd (cc)
not-not false h = refl

-- what is at most the bound stays so below it
pub most-down : (high a b : Option Value) → is_gt (cell_cmp a b) ≡ false → cell_most high b ≡ true → cell_most high a ≡ true
most-down None a b le h = refl
most-down (Some v) a b le h = ap not (upto_total cell_cmp_total a b (Some v) le (not-not _ h))

-- what is below the bound stays so below it
pub below-down : (low x y : Option Value) → is_gt (cell_cmp x y) ≡ false → cell_below low y ≡ true → cell_below low x ≡ true
below-down None x y le h = h
below-down (Some v) x y le h = go (cell_cmp x (Some v)) refl where
  turned : (o r : Ordering) → r ≡ ordering_reverse o → is_lt o ≡ false → is_gt r ≡ false
  turned Less r e h = absurd (cc)
  turned Equal r e h = cc
  turned Greater r e h = cc

  turned' : (o r : Ordering) → r ≡ ordering_reverse o → is_gt o ≡ false → is_lt r ≡ false
  turned' Less r e h = cc
  turned' Equal r e h = cc
  turned' Greater r e h = absurd (cc)

  -- else the bound would be at most what is below it
  go : (o : Ordering) → cell_cmp x (Some v) ≡ o → is_lt (cell_cmp x (Some v)) ≡ true
  go Less e = ap is_lt e
  go Equal e = absurd (let u = upto_total cell_cmp_total (Some v) x y (turned (cell_cmp x (Some v)) _ (cell_cmp_total.antisymm (Some v) x) (ap is_lt e)) le in let w = turned' (cell_cmp (Some v) y) _ (cell_cmp_total.antisymm y (Some v)) u in cc)
  go Greater e = absurd (let u = upto_total cell_cmp_total (Some v) x y (turned (cell_cmp x (Some v)) _ (cell_cmp_total.antisymm (Some v) x) (ap is_lt e)) le in let w = turned' (cell_cmp (Some v) y) _ (cell_cmp_total.antisymm y (Some v)) u in cc)

pub most-parts : (high : Option Value) (ms : List (List Value)) → Rising ms → IsPartitionedBy (at_most high) ms
most-parts high ms r i j d p q h = most-down high (slice_get (get_or ms i d) 0) (slice_get (get_or ms j d) 0) (rising-at ms i j d r p q) h

pub below-parts : (low : Option Value) (ms : List (List Value)) → Rising ms → IsPartitionedBy (is_below low) ms
below-parts low ms r i j d p q h = below-down low (slice_get (get_or ms i d) 0) (slice_get (get_or ms j d) 0) (rising-at ms i j d r p q) h
