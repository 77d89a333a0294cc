-- Places of rows in the order of the rows.
use Rattle.std.proofs.Common.{◌≡◌, ℕ, zero, suc, ◌+◌, ◌-◌, ◌<◌, ◌≤◌, Bool, true, false, cond, List, [], ◌∷◌, ◌++◌, map, length, slice_get, get_or, refl, sym, ap, ◌∙◌, arith}
use Rattle.std.specs.Option.{option_to_list}
use Rattle.std.specs.declared.option.Option.{Option}
use Rattle.std.specs.declared.option.Option.TheVariants.{Some}
use Rattle.std.specs.declared.cmp.Ordering.{Ordering}
use Rattle.std.specs.Ordering.{is_gt}
use Rattle.std.specs.Cmp.{IsTotalOrder}
use Rattle.rmt_values.specs.Order.{sink, in_order}
use Rattle.rmt_values.specs.Rows.{AllBelow}
use Rattle.rmt_columns.specs.Leading.{pulled}
use Rattle.rmt_columns.specs.Places.{at_places, numbers_from}
use Rattle.rmt_columns.proofs.PlacesLemmas.{append-next}

pub pulled-total : {X Y : Type 0} (f : Y → X) (cmp : X → X → Ordering) → IsTotalOrder cmp → IsTotalOrder (pulled f cmp)
pulled-total f cmp o = record {
  antisymm = λ x y. o.antisymm (f x) (f y);
  trans = λ x y z. o.trans (f x) (f y) (f z);
  congr = λ x y z. o.congr (f x) (f y) (f z);
}

pub map-ordered : {X Y : Type 0} (f : Y → X) (cmp : X → X → Ordering) (ps : List Y) → map f (in_order (pulled f cmp) ps) ≡ in_order cmp (map f ps)
map-ordered f cmp [] = refl
map-ordered {X} {Y} f cmp (p ∷ ps) = sunk (in_order (pulled f cmp) ps) ∙ ap (sink cmp (f p)) (map-ordered f cmp ps)
  where
    sunk : (qs : List Y) → map f (sink (pulled f cmp) p qs) ≡ sink cmp (f p) (map f qs)
    sunk [] = refl
    sunk (q ∷ qs) = go (is_gt (cmp (f p) (f q))) (sunk qs)
      where
        go : (b : Bool) → map f (sink (pulled f cmp) p qs) ≡ sink cmp (f p) (map f qs) → map f (cond b (q ∷ sink (pulled f cmp) p qs) (p ∷ q ∷ qs)) ≡ cond b (f q ∷ sink cmp (f p) (map f qs)) (f p ∷ f q ∷ map f qs)
        go true r = ap (λ (l : List X). f q ∷ l) r
        go false r = refl

-- ---- the numbers below one

pub numbers-step : (some all : List ℕ) (i n : ℕ) → i < n → some ++ numbers_from i (n - i) ≡ all → (some ++ i ∷ []) ++ numbers_from (i + 1) (n - (i + 1)) ≡ all
numbers-step some all i n h e =
    let k : n - i ≡ suc (n - (i + 1)) = omega (arith, h) in
    append-next some i (numbers_from (i + 1) (n - (i + 1))) ∙ (ap (λ (m : ℕ). some ++ numbers_from i m) (sym k) ∙ e)

pub numbers-done : (some all : List ℕ) (i n : ℕ) → n ≤ i → some ++ numbers_from i (n - i) ≡ all → some ≡ all
numbers-done some all i n h e =
    let k : n - i ≡ 0 = omega (arith, h) in
    sym (ap (λ (m : ℕ). some ++ numbers_from i m) k ∙ append-none some) ∙ e
  where
    append-none : (xs : List ℕ) → xs ++ [] ≡ xs
    append-none [] = refl
    append-none (x ∷ xs) = ap (λ (l : List ℕ). x ∷ l) (append-none xs)

numbers-below : (i n m : ℕ) → i + n ≤ m → AllBelow m (numbers_from i n)
numbers-below i zero m h = tt
numbers-below i (suc n) m h = (omega (arith, h), numbers-below (i + 1) n m (omega (arith, h)))

below-sink : (m : ℕ) (cmp : ℕ → ℕ → Ordering) (i : ℕ) (is : List ℕ) → i < m → AllBelow m is → AllBelow m (sink cmp i is)
below-sink m cmp i [] h b = (h, tt)
below-sink m cmp i (j ∷ js) h b = go (is_gt (cmp i j)) (below-sink m cmp i js h b.1)
  where
    go : (t : Bool) → AllBelow m (sink cmp i js) → AllBelow m (cond t (j ∷ sink cmp i js) (i ∷ j ∷ js))
    go true r = (b.0, r)
    go false r = (h, b)

below-order : (m : ℕ) (cmp : ℕ → ℕ → Ordering) (is : List ℕ) → AllBelow m is → AllBelow m (in_order cmp is)
below-order m cmp [] b = tt
below-order m cmp (i ∷ is) b = below-sink m cmp i (in_order cmp is) b.0 (below-order m cmp is b.1)

at-shown : {X : Type 0} (xs : List X) (d : X) (is : List ℕ) → AllBelow (length xs) is → at_places xs is ≡ map (λ i. get_or xs i d) is
at-shown xs d [] b = refl
at-shown {X} xs d (i ∷ is) b = ap (λ (o : Option X). option_to_list o ++ at_places xs is) (there xs i b.0) ∙ ap (λ (l : List X). get_or xs i d ∷ l) (at-shown xs d is b.1)
  where
    there : (xs : List X) (i : ℕ) → i < length xs → slice_get xs i ≡ Some (get_or xs i d)
    there [] i h = absurd (omega (arith, h))
    there (x ∷ xs) zero h = refl
    there (x ∷ xs) (suc i) h = there xs i (omega (arith, h))

all-shown : {X : Type 0} (before xs all : List X) (d : X) (i n : ℕ) → all ≡ before ++ xs → i ≡ length before → n ≡ length xs → map (λ k. get_or all k d) (numbers_from i n) ≡ xs
all-shown before [] all d i zero e f g = refl
all-shown before [] all d i (suc n) e f g = absurd (omega (arith, g))
all-shown before (x ∷ xs) all d i zero e f g = absurd (omega (arith, g))
all-shown {X} before (x ∷ xs) all d i (suc n) e f g =
    ap (λ (y : X). y ∷ map (λ k. get_or all k d) (numbers_from (i + 1) n)) (ap (λ (l : List X). get_or l i d) e ∙ (ap (λ (k : ℕ). get_or (before ++ x ∷ xs) k d) f ∙ seam before))
    ∙ ap (λ (l : List X). x ∷ l) (all-shown (before ++ x ∷ []) xs all d (i + 1) n (e ∙ sym (append-next before x xs)) (let l = length-more before in omega (arith, f, l)) (omega (arith, g)))
  where
    seam : (b : List X) → get_or (b ++ x ∷ xs) (length b) d ≡ x
    seam [] = refl
    seam (y ∷ ys) = seam ys

    length-more : (b : List X) → length (b ++ x ∷ []) ≡ length b + 1
    length-more [] = refl
    length-more (y ∷ ys) = let r = length-more ys in omega (arith, r)

-- places in the order of what stands there
pub record InOrder {X : Type 0} (cmp : X → X → Ordering) (xs : List X) (places : List ℕ) : Type 0 where
  pub order : at_places xs places ≡ in_order cmp xs
  pub there : AllBelow (length xs) places

pub places-ordered : {X : Type 0} (cmp : X → X → Ordering) (xs : List X) (d : X) (n : ℕ) (start places : List ℕ) → n ≡ length xs → start ≡ numbers_from 0 n
    → places ≡ in_order (pulled (λ i. get_or xs i d) cmp) start → InOrder cmp xs places
places-ordered {X} cmp xs d n start places e f g =
    let by = pulled (λ i. get_or xs i d) cmp in
    let is : places ≡ in_order by (numbers_from 0 n) = g ∙ ap (in_order by) f in
    let below = below-order (length xs) by (numbers_from 0 n) (numbers-below 0 n (length xs) (omega (arith, e))) in
    record {
      order = ap (at_places xs) is ∙ (at-shown xs d (in_order by (numbers_from 0 n)) below ∙ (map-ordered (λ i. get_or xs i d) cmp (numbers_from 0 n) ∙ ap (in_order cmp) (all-shown [] xs xs d 0 n refl refl e)));
      there = rw is below;
    }
