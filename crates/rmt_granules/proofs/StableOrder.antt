-- The stable order of joined lists, and of elements that are changed without their place in the order.
use Rattle.std.proofs.Common.{◌≡◌, zero, suc, Bool, true, false, cond, List, [], ◌∷◌, ◌++◌, filter, is_lt, refl, sym, ap, ◌∙◌}
use Rattle.std.proofs.Common.{subst, ◌+◌, map, arith, All, IsSorted}
use Rattle.std.proofs.lemmas.List.Elements.{All-cons}
use Rattle.std.specs.Ordering.{ordering_reverse}
use Rattle.std.proofs.lemmas.List.Elements.{filter-append}
use Rattle.std.proofs.lemmas.Cmp.{upto as upto_total}
use Rattle.std.specs.List.{filter_map, cons_option}
use Rattle.std.specs.declared.option.Option.{Option}
use Rattle.std.specs.declared.option.Option.TheVariants.{Some, None}
use Rattle.std.specs.declared.cmp.Ordering.{Ordering}
use Rattle.std.specs.declared.cmp.Ordering.TheVariants.{Less, Equal, Greater}
use Rattle.std.specs.Ordering.{is_gt}
use Rattle.std.specs.Cmp.{IsTotalOrder}
use Rattle.std.specs.List.Sorted.{ties}
use Rattle.rmt_values.specs.Order.{sink, in_order}
use Rattle.rmt_values.proofs.Sorting.{Low, Up, Up-in_order, filter-in_order, same_from_ties}
use Rattle.rmt_columns.specs.Leading.{pulled}
use Rattle.rmt_columns.proofs.OrderLemmas.{pulled-total}

module _ {X : Type 0} (cmp : X → X → Ordering) (o : IsTotalOrder cmp) where
  abbrev less : X → X → Bool
  less x y = is_lt (cmp x y)

  pub Low-down : (x y : X) (ys : List X) → is_gt (cmp x y) ≡ false → Low cmp o y ys → Low cmp o x ys
  Low-down x y [] le h = tt
  Low-down x y (z ∷ zs) le h = (upto_total o x y z le h.0, Low-down x y zs le h.1)

  Low-sink : (z x : X) (ys : List X) → is_gt (cmp z x) ≡ false → Low cmp o z ys → Low cmp o z (sink cmp x ys)
  Low-sink z x [] le h = (le, tt)
  Low-sink z x (y ∷ ys) le h = go (is_gt (cmp x y)) (Low-sink z x ys le h.1) where
    go : (b : Bool) → Low cmp o z (sink cmp x ys) → Low cmp o z (cond b (y ∷ sink cmp x ys) (x ∷ y ∷ ys))
    go true r = (h.0, r)
    go false r = (le, h)

  -- lists with the same ties have one order
  pub order-same : (xs ys : List X) → ((x : X) → filter (ties less x) xs ≡ filter (ties less x) ys) → in_order cmp xs ≡ in_order cmp ys
  order-same xs ys h =
      same_from_ties cmp o (in_order cmp xs) (in_order cmp ys) (Up-in_order cmp o xs) (Up-in_order cmp o ys)
      (λ x. filter-in_order cmp o x xs ∙ (h x ∙ sym (filter-in_order cmp o x ys)))

  -- lists of one order have the same ties
  ties-same : (xs ys : List X) → in_order cmp xs ≡ in_order cmp ys → (x : X) → filter (ties less x) xs ≡ filter (ties less x) ys
  ties-same xs ys e x = sym (filter-in_order cmp o x xs) ∙ (ap (filter (ties less x)) e ∙ filter-in_order cmp o x ys)

  -- the order of joined lists is told by the orders of the two
  pub order-joined : (xs xs' ys ys' : List X) → in_order cmp xs ≡ in_order cmp xs' → in_order cmp ys ≡ in_order cmp ys' → in_order cmp (xs ++ ys) ≡ in_order cmp (xs' ++ ys')
  order-joined xs xs' ys ys' e f =
      order-same (xs ++ ys) (xs' ++ ys')
      (λ x. filter-append (ties less x) xs ys
      ∙ (ap (λ l. l ++ filter (ties less x) ys) (ties-same xs xs' e x)
      ∙ (ap (λ l. filter (ties less x) xs' ++ l) (ties-same ys ys' f x) ∙ sym (filter-append (ties less x) xs' ys'))))

  pub order-twice : (xs : List X) → in_order cmp (in_order cmp xs) ≡ in_order cmp xs
  order-twice xs = order-same (in_order cmp xs) xs (λ x. filter-in_order cmp o x xs)

  -- what stands in order is its own order
  pub order-ordered : (xs : List X) → Up cmp o xs → in_order cmp xs ≡ xs
  order-ordered xs u = same_from_ties cmp o (in_order cmp xs) xs (Up-in_order cmp o xs) u (λ x. filter-in_order cmp o x xs)

  pub Low-joined : (x : X) (xs ys : List X) → Low cmp o x xs → Low cmp o x ys → Low cmp o x (xs ++ ys)
  Low-joined x [] ys l m = m
  Low-joined x (z ∷ xs) ys l m = (l.0, Low-joined x xs ys l.1 m)

  Low-ordered : (x : X) (xs : List X) → Low cmp o x xs → Low cmp o x (in_order cmp xs)
  Low-ordered x [] l = tt
  Low-ordered x (z ∷ xs) l = Low-sink x z (in_order cmp xs) l.0 (Low-ordered x xs l.1)

  sink-low : (x : X) (xs : List X) → Low cmp o x xs → sink cmp x xs ≡ x ∷ xs
  sink-low x [] l = refl
  sink-low x (z ∷ xs) l = rw l.0 refl

  -- the first of two lists goes first where its head isn't above the other's
  pub order-first : (x : X) (xs ys : List X) → Up cmp o (x ∷ xs) → Low cmp o x ys → in_order cmp ((x ∷ xs) ++ ys) ≡ x ∷ in_order cmp (xs ++ ys)
  order-first x xs ys u l = sink-low x (in_order cmp (xs ++ ys)) (Low-ordered x (xs ++ ys) (Low-joined x xs ys u.0 l))

  -- each is above y
  abbrev pub High : X → List X → Type 0
  High y [] = Unit {0}
  High y (z ∷ zs) = (is_gt (cmp z y) ≡ true) × High y zs

  High-low : (x y : X) (zs : List X) → is_gt (cmp x y) ≡ true → Low cmp o x zs → High y zs
  High-low x y [] h l = tt
  High-low x y (z ∷ zs) h l = (go (is_gt (cmp z y)) refl, High-low x y zs h l.1)
    where
      go : (b : Bool) → is_gt (cmp z y) ≡ b → is_gt (cmp z y) ≡ true
      go true e = e
      go false e = absurd (let c = sym h ∙ upto_total o x z y l.0 e in cc)

  passes-high : (zs : List X) (y : X) (ys : List X) → High y zs → Low cmp o y ys → in_order cmp (zs ++ y ∷ ys) ≡ y ∷ in_order cmp (zs ++ ys)
  passes-high [] y ys h l = sink-low y (in_order cmp ys) (Low-ordered y ys l)
  passes-high (z ∷ zs) y ys h l = ap (sink cmp z) (passes-high zs y ys h.1 l) ∙ ap (λ (b : Bool). cond b (y ∷ sink cmp z (in_order cmp (zs ++ ys))) (z ∷ y ∷ in_order cmp (zs ++ ys))) h.0

  -- the head of the second list goes first where the head of the first is above it
  pub order-second : (x : X) (xs : List X) (y : X) (ys : List X) → Up cmp o (x ∷ xs) → Up cmp o (y ∷ ys) → is_gt (cmp x y) ≡ true → in_order cmp ((x ∷ xs) ++ y ∷ ys) ≡ y ∷ in_order cmp ((x ∷ xs) ++ ys)
  order-second x xs y ys u v h = passes-high (x ∷ xs) y ys (h, High-low x y xs h u.0) v.0

  -- what is put in order stands in order
  pub ordered-up : (xs : List X) → in_order cmp xs ≡ xs → Up cmp o xs
  ordered-up xs e = subst (Up cmp o) e (Up-in_order cmp o xs)

  -- a head that isn't above the other list's head isn't above any of it
  pub low-behind : (x y : X) (ys : List X) → is_gt (cmp x y) ≡ false → Up cmp o (y ∷ ys) → Low cmp o x (y ∷ ys)
  low-behind x y ys h u = (h, Low-down x y ys h u.0)

  -- ---- changes that leave the order

  -- what the change makes of an element stands where the element stood
  abbrev pub KeepsPlace : (X → Option X) → Type 0
  KeepsPlace f = (x x' : X) → f x ≡ Some x' → (y : X) → (cmp x' y ≡ cmp x y) × (cmp y x' ≡ cmp y x)

  Low-changed : (f : X → Option X) → KeepsPlace f → (x : X) (ys : List X) → Low cmp o x ys → Low cmp o x (filter_map f ys)
  Low-changed f k x [] l = tt
  Low-changed f k x (y ∷ ys) l = go (f y) refl (Low-changed f k x ys l.1)
    where
      go : (r : Option X) → f y ≡ r → Low cmp o x (filter_map f ys) → Low cmp o x (cons_option r (filter_map f ys))
      go None e m = m
      go (Some y') e m = (ap is_gt (k y y' e x).1 ∙ l.0, m)

  Low-like : (x x' : X) (ys : List X) → ((y : X) → cmp x' y ≡ cmp x y) → Low cmp o x ys → Low cmp o x' ys
  Low-like x x' [] e l = tt
  Low-like x x' (y ∷ ys) e l = (ap is_gt (e y) ∙ l.0, Low-like x x' ys e l.1)

  Up-changed : (f : X → Option X) → KeepsPlace f → (xs : List X) → Up cmp o xs → Up cmp o (filter_map f xs)
  Up-changed f k [] u = tt
  Up-changed f k (x ∷ xs) u = go (f x) refl (Up-changed f k xs u.1)
    where
      go : (r : Option X) → f x ≡ r → Up cmp o (filter_map f xs) → Up cmp o (cons_option r (filter_map f xs))
      go None e m = m
      go (Some x') e m = (Low-like x x' (filter_map f xs) (λ y. (k x x' e y).0) (Low-changed f k x xs u.0), m)

  ties-changed : (f : X → Option X) → KeepsPlace f → (y : X) (xs : List X) → filter (ties less y) (filter_map f xs) ≡ filter_map f (filter (ties less y) xs)
  ties-changed f k y [] = refl
  ties-changed f k y (x ∷ xs) = go (f x) refl (ties-changed f k y xs)
    where
      alike : (x' : X) → f x ≡ Some x' → ties less y x' ≡ ties less y x
      alike x' e = rw ((k x x' e y).0, (k x x' e y).1) refl

      none : (b : Bool) → f x ≡ None → filter_map f (cond b (x ∷ filter (ties less y) xs) (filter (ties less y) xs)) ≡ filter_map f (filter (ties less y) xs)
      none true e = ap (λ (r : Option X). cons_option r (filter_map f (filter (ties less y) xs))) e
      none false e = refl

      some : (x' : X) (b : Bool) → f x ≡ Some x' → cond b (x' ∷ filter_map f (filter (ties less y) xs)) (filter_map f (filter (ties less y) xs)) ≡ filter_map f (cond b (x ∷ filter (ties less y) xs) (filter (ties less y) xs))
      some x' true e = ap (λ (r : Option X). cons_option r (filter_map f (filter (ties less y) xs))) (sym e)
      some x' false e = refl

      go : (r : Option X) → f x ≡ r → filter (ties less y) (filter_map f xs) ≡ filter_map f (filter (ties less y) xs) → filter (ties less y) (cons_option r (filter_map f xs)) ≡ filter_map f (filter (ties less y) (x ∷ xs))
      go None e m = m ∙ sym (none (ties less y x) e)
      go (Some x') e m =
          ap (λ (b : Bool). cond b (x' ∷ filter (ties less y) (filter_map f xs)) (filter (ties less y) (filter_map f xs))) (alike x' e)
          ∙ (ap (λ (l : List X). cond (ties less y x) (x' ∷ l) l) m ∙ some x' (ties less y x) e)

  -- changed rows stand in order without being put in order again
  pub order-changed : (f : X → Option X) → KeepsPlace f → (xs : List X) → filter_map f (in_order cmp xs) ≡ in_order cmp (filter_map f xs)
  order-changed f k xs =
      same_from_ties cmp o (filter_map f (in_order cmp xs)) (in_order cmp (filter_map f xs)) (Up-changed f k (in_order cmp xs) (Up-in_order cmp o xs)) (Up-in_order cmp o (filter_map f xs))
      (λ y. ties-changed f k y (in_order cmp xs) ∙ (ap (filter_map f) (filter-in_order cmp o y xs) ∙ (sym (ties-changed f k y xs) ∙ sym (filter-in_order cmp o y (filter_map f xs)))))

  -- ---- the order, in std's words

  lt-from-gt : (x y : X) → is_gt (cmp x y) ≡ false → is_lt (cmp y x) ≡ false
  lt-from-gt x y h = go (cmp x y) (cmp y x) (o.antisymm y x) h where
    go : (a b : Ordering) → b ≡ ordering_reverse a → is_gt a ≡ false → is_lt b ≡ false
    go Less b e h = cc
    go Equal b e h = cc
    go Greater b e h = absurd (cc)

  pub Up-sorted : (xs : List X) → Up cmp o xs → IsSorted cmp xs
  Up-sorted [] u k d l h = absurd (omega (arith, h))
  Up-sorted (x ∷ []) u k d l h = absurd (omega (arith, h))
  Up-sorted (x ∷ y ∷ xs) u zero d l h = lt-from-gt x y u.0.0
  Up-sorted (x ∷ y ∷ xs) u (suc k) d l h =
      let e : suc k + 1 ≡ suc (k + 1) = omega arith in
      rw e (Up-sorted (y ∷ xs) u.1 k d (omega arith) (omega (arith, h)))

  pub ordered-sorted : (xs : List X) → IsSorted cmp (in_order cmp xs)
  ordered-sorted xs = Up-sorted (in_order cmp xs) (Up-in_order cmp o xs)

-- what holds of each element holds of each in order
pub All-ordered : {X : Type 0} (cmp : X → X → Ordering) (P : X → Type 0) (xs : List X) → All P xs → All P (in_order cmp xs)
All-ordered cmp P [] h = h
All-ordered {X} cmp P (x ∷ xs) h = sunk (in_order cmp xs) (All-ordered cmp P xs (λ k d l. h (suc k) d (omega (arith, l))))
  where
    head : P x
    head = h zero x (omega arith)

    sunk : (ys : List X) → All P ys → All P (sink cmp x ys)
    sunk [] g = All-cons P x [] head g
    sunk (y ∷ ys) g = go (is_gt (cmp x y)) (sunk ys (λ k d l. g (suc k) d (omega (arith, l))))
      where
        go : (b : Bool) → All P (sink cmp x ys) → All P (cond b (y ∷ sink cmp x ys) (x ∷ y ∷ ys))
        go true r = All-cons P y (sink cmp x ys) (g zero y (omega arith)) r
        go false r = All-cons P x (y ∷ ys) head g

-- ---- the order by what a function shows

pub Up-pulled : {X Y : Type 0} (f : Y → X) (cmp : X → X → Ordering) (o : IsTotalOrder cmp) (ps : List Y) → Up cmp o (map f ps) → Up (pulled f cmp) (pulled-total f cmp o) ps
Up-pulled f cmp o [] u = tt
Up-pulled {X} {Y} f cmp o (p ∷ ps) u = (low ps u.0, Up-pulled f cmp o ps u.1)
  where
    low : (qs : List Y) → Low cmp o (f p) (map f qs) → Low (pulled f cmp) (pulled-total f cmp o) p qs
    low [] l = tt
    low (q ∷ qs) l = (l.0, low qs l.1)
