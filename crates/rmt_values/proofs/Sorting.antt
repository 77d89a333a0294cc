-- A sorted stable list is the stable order, and the order keeps weighings.
use Rattle.std.proofs.Common.{◌≡◌, ℕ, zero, suc, ◌+◌, ◌<◌, ◌≤◌, Bool, true, false, cond, List, [], ◌∷◌, length, get_or, filter, is_lt, refl, sym, ap, ◌∙◌, arith, inl, inr, suc-le-suc, zero-le}
use Rattle.std.proofs.lemmas.Bool.{cond-true, cond-false, cases_Bool}
use Rattle.std.specs.Prelude.{not, ◌&&◌, OnOk}
use Rattle.std.specs.declared.result.Result.{Result}
use Rattle.std.specs.declared.result.Result.TheVariants.{Ok, Err}
use Rattle.std.specs.declared.cmp.Ordering.{Ordering}
use Rattle.std.specs.declared.cmp.Ordering.TheVariants.{Less, Equal, Greater}
use Rattle.std.specs.Ordering.{is_gt, ordering_reverse}
use Rattle.std.specs.Cmp.{IsTotalOrder}
use Rattle.std.specs.List.Sorted.{ties, IsSortedBy, IsStableBy}
use Rattle.std.proofs.lemmas.List.Sorted.{sorted_far, ranks_by}
use Rattle.std.proofs.lemmas.Cmp.{tied_itself, tied_back, alike_right, upto as upto_total}
use Rattle.rmt_values.specs.Order.{sink, in_order, tally}

filter-kept : {X : Type 0} (p : X → Bool) (y : X) (ys : List X) → p y ≡ true → filter p (y ∷ ys) ≡ y ∷ filter p ys
filter-kept p y ys h = cond-true _ _ _ h

filter-dropped : {X : Type 0} (p : X → Bool) (y : X) (ys : List X) → p y ≡ false → filter p (y ∷ ys) ≡ filter p ys
filter-dropped p y ys h = cond-false _ _ _ h

-- ties of one order, in terms of the order
both-not : (a b : Ordering) → b ≡ ordering_reverse a → not (is_lt a) && not (is_lt b) ≡ true → a ≡ Equal
both-not Less b e h = cc
both-not Equal b e h = refl
both-not Greater b e h = absurd (cc)

both-equal : (a b : Ordering) → a ≡ Equal → b ≡ ordering_reverse a → not (is_lt a) && not (is_lt b) ≡ true
both-equal a b h e = cc

not-above : (o : Ordering) → is_gt o ≡ false → is_lt (ordering_reverse o) ≡ false
not-above Less h = refl
not-above Equal h = refl
not-above Greater h = absurd (cc)

module _ {X : Type 0} (cmp : X → X → Ordering) (o : IsTotalOrder cmp) where
  abbrev lt : X → X → Bool
  lt x y = is_lt (cmp x y)

  pub tied : (x y : X) → ties lt x y ≡ true → cmp x y ≡ Equal
  tied x y h = both-not (cmp x y) (cmp y x) (o.antisymm y x) h

  tied_from : (x y : X) → cmp x y ≡ Equal → ties lt x y ≡ true
  tied_from x y h = both-equal (cmp x y) (cmp y x) h (o.antisymm y x)

  -- x is above none of them
  abbrev pub Low : X → List X → Type 0
  Low x [] = Unit {0}
  Low x (y ∷ ys) = (is_gt (cmp x y) ≡ false) × Low x ys

  -- each is above none after it
  abbrev pub Up : List X → Type 0
  Up [] = Unit {0}
  Up (x ∷ xs) = Low x xs × Up xs

  Low-down : (x y : X) (ys : List X) → is_gt (cmp x y) ≡ false → Low y ys → Low x ys
  Low-down x y [] le h = tt
  Low-down x y (z ∷ zs) le h = (upto_total o x y z le h.0, Low-down x y zs le h.1)

  pub gt-from-lt : (x y : X) → is_lt (cmp y x) ≡ false → is_gt (cmp x y) ≡ false
  gt-from-lt x y h = go (cmp y x) (cmp x y) (o.antisymm x y) h where
    go : (a b : Ordering) → b ≡ ordering_reverse a → is_lt a ≡ false → is_gt b ≡ false
    go Less b e h = absurd (cc)
    go Equal b e h = cc
    go Greater b e h = cc

  Low-at : (x : X) (ys : List X) → ((j : ℕ) (d : X) → j < length ys → is_lt (cmp (get_or ys j d) x) ≡ false) → Low x ys
  Low-at x [] h = tt
  Low-at x (y ∷ ys) h = (gt-from-lt x y (h zero y (suc-le-suc zero-le)), Low-at x ys (λ j d p. h (suc j) d (suc-le-suc p)))

  Up-from : (ys : List X) → ((i j : ℕ) (d : X) → i ≤ j → j < length ys → is_lt (cmp (get_or ys j d) (get_or ys i d)) ≡ false) → Up ys
  Up-from [] h = tt
  Up-from (y ∷ ys) h = (
    Low-at y ys (λ j d p. h zero (suc j) d zero-le (suc-le-suc p)),
    Up-from ys (λ i j d p q. h (suc i) (suc j) d (suc-le-suc p) (suc-le-suc q)),
  )

  pub Up-from_sort : (ys : List X) → IsSortedBy lt ys → Up ys
  Up-from_sort ys s = Up-from ys (sorted_far lt (ranks_by o (λ x. x)) ys s)

  above-turned : (x y : X) → is_gt (cmp x y) ≡ true → is_gt (cmp y x) ≡ false
  above-turned x y h = go (cmp x y) (cmp y x) (o.antisymm y x) h where
    go : (a b : Ordering) → b ≡ ordering_reverse a → is_gt a ≡ true → is_gt b ≡ false
    go Less b e h = absurd (cc)
    go Equal b e h = absurd (cc)
    go Greater b e h = cc

  Low-sink : (z x : X) (ys : List X) → is_gt (cmp z x) ≡ false → Low z ys → Low z (sink cmp x ys)
  Low-sink z x [] le h = (le, tt)
  Low-sink z x (y ∷ ys) le h = go (is_gt (cmp x y)) (Low-sink z x ys le h.1) where
    go : (b : Bool) → Low z (sink cmp x ys) → Low z (cond b (y ∷ sink cmp x ys) (x ∷ y ∷ ys))
    go true r = (h.0, r)
    go false r = (le, h)

  Up-sink : (x : X) (ys : List X) → Up ys → Up (sink cmp x ys)
  Up-sink x [] h = (tt, tt)
  Up-sink x (y ∷ ys) h = go (is_gt (cmp x y)) refl (Up-sink x ys h.1) where
    go : (b : Bool) → is_gt (cmp x y) ≡ b → Up (sink cmp x ys) → Up (cond b (y ∷ sink cmp x ys) (x ∷ y ∷ ys))
    go true e r = (Low-sink y x ys (above-turned x y e) h.0, r)
    go false e r = ((e, Low-down x y ys e h.0), h)

  pub Up-in_order : (xs : List X) → Up (in_order cmp xs)
  Up-in_order [] = tt
  Up-in_order (x ∷ xs) = Up-sink x (in_order cmp xs) (Up-in_order xs)

  -- both tie with x, so they tie
  tie-both : (x y z : X) → cmp x y ≡ Equal → cmp x z ≡ Equal → cmp y z ≡ Equal
  tie-both x y z p q = sym (o.congr x y z p) ∙ q

  filter-sink : (x c : X) (ds : List X) → filter (ties lt x) (sink cmp c ds) ≡ filter (ties lt x) (c ∷ ds)
  filter-sink x c [] = refl
  filter-sink x c (d ∷ ds) = go (is_gt (cmp c d)) refl (filter-sink x c ds) where
    p : X → Bool
    p = ties lt x

    swapped : (l : List X) → is_gt (cmp c d) ≡ true → cond (p d) (d ∷ cond (p c) (c ∷ l) l) (cond (p c) (c ∷ l) l) ≡ cond (p c) (c ∷ cond (p d) (d ∷ l) l) (cond (p d) (d ∷ l) l)
    swapped l e = elim (cases_Bool (p d)) [
      | inr without ↦ rw without refl
      | inl with ↦ elim (cases_Bool (p c)) [
        | inr only ↦ rw only refl
        | inl both ↦ absurd (let t : cmp c d ≡ Equal = tie-both x c d (tied x c both) (tied x d with) in cc)
      ]
    ]

    go : (b : Bool) → is_gt (cmp c d) ≡ b → filter (ties lt x) (sink cmp c ds) ≡ filter (ties lt x) (c ∷ ds) → filter (ties lt x) (cond b (d ∷ sink cmp c ds) (c ∷ d ∷ ds)) ≡ filter (ties lt x) (c ∷ d ∷ ds)
    go true e r = ap (λ (l : List X). cond (p d) (d ∷ l) l) r ∙ swapped (filter p ds) e
    go false e r = refl

  pub filter-in_order : (x : X) (cs : List X) → filter (ties lt x) (in_order cmp cs) ≡ filter (ties lt x) cs
  filter-in_order x [] = refl
  filter-in_order x (c ∷ cs) = filter-sink x c (in_order cmp cs) ∙ ap (λ (l : List X). cond (ties lt x c) (c ∷ l) l) (filter-in_order x cs)

  -- an element that ties with x is found in a list that x's bound is low of
  Low-found : (z x : X) (ys : List X) (w : X) (ws : List X) → Low z ys → filter (ties lt x) ys ≡ w ∷ ws → is_gt (cmp z x) ≡ false
  Low-found z x [] w ws h e = absurd (cc)
  Low-found z x (y ∷ ys) w ws h e = elim (cases_Bool (ties lt x y)) [
    | inl with ↦ ap is_gt (sym (alike_right o y x z (tied_back o x y (tied x y with)))) ∙ h.0
    | inr without ↦ Low-found z x ys w ws h.1 (sym (filter-dropped (ties lt x) y ys without) ∙ e)
  ]

  both-low : (a b : Ordering) → b ≡ ordering_reverse a → is_gt a ≡ false → is_gt b ≡ false → a ≡ Equal
  both-low Less b e p q = absurd (cc)
  both-low Equal b e p q = refl
  both-low Greater b e p q = absurd (cc)

  itself : (x : X) → ties lt x x ≡ true
  itself x = tied_from x x (tied_itself o x)

  low-itself : (x : X) → is_gt (cmp x x) ≡ false
  low-itself x = ap is_gt (tied_itself o x)

  pub same_from_ties : (ys zs : List X) → Up ys → Up zs → ((x : X) → filter (ties lt x) ys ≡ filter (ties lt x) zs) → ys ≡ zs
  same_from_ties [] [] left right same = refl
  same_from_ties [] (z ∷ zs) left right same = absurd (let clash = same z ∙ filter-kept (ties lt z) z zs (itself z) in cc)
  same_from_ties (y ∷ ys) [] left right same = absurd (let clash = sym (same y) ∙ filter-kept (ties lt y) y ys (itself y) in cc)
  same_from_ties (y ∷ ys) (z ∷ zs) left right same =
      let at_y = filter-kept (ties lt y) y ys (itself y) in
      let at_z = filter-kept (ties lt z) z zs (itself z) in
      let up : is_gt (cmp z y) ≡ false = Low-found z y (z ∷ zs) y _ (low-itself z, right.0) (sym (same y) ∙ at_y) in
      let down : is_gt (cmp y z) ≡ false = Low-found y z (y ∷ ys) z _ (low-itself y, left.0) (same z ∙ at_z) in
      let alike : cmp y z ≡ Equal = both-low (cmp y z) (cmp z y) (o.antisymm z y) down up in
      let heads = sym at_y ∙ same y ∙ filter-kept (ties lt y) z zs (tied_from y z alike) in
      let head : y ≡ z = cc in
      let tails : (x : X) → filter (ties lt x) ys ≡ filter (ties lt x) zs =
      λ x. elim (cases_Bool (ties lt x y)) [
        | inl with ↦
            let both = sym (filter-kept (ties lt x) y ys with) ∙ same x ∙ filter-kept (ties lt x) z zs (ap (ties lt x) (sym head) ∙ with) in cc
        | inr without ↦
            sym (filter-dropped (ties lt x) y ys without) ∙ same x ∙ filter-dropped (ties lt x) z zs (ap (ties lt x) (sym head) ∙ without)
      ] in
      ap (λ w. w ∷ ys) head ∙ ap (λ l. z ∷ l) (same_from_ties ys zs left.1 right.1 tails)

  -- the unique stable order
  pub in_order-from_sort : (xs ys : List X) → IsSortedBy lt ys → IsStableBy lt xs ys → ys ≡ in_order cmp xs
  in_order-from_sort xs ys sorted stable =
      same_from_ties ys (in_order cmp xs) (Up-from_sort ys sorted) (Up-in_order xs) (λ x. stable x ∙ sym (filter-in_order x xs))

pub OnOk-map : {A E : Type 0} (r : Result A E) (P Q : Type 0) → (P → Q) → OnOk r P → OnOk r Q
OnOk-map (Ok a) P Q f h = f h
OnOk-map (Err e) P Q f h = h

tally-sink : {X : Type 0} (cmp : X → X → Ordering) (f : X → ℕ) (x : X) (ys : List X) → tally f (sink cmp x ys) ≡ f x + tally f ys
tally-sink cmp f x [] = refl
tally-sink {X} cmp f x (y ∷ ys) = go (is_gt (cmp x y)) (tally-sink cmp f x ys) where
  go : (b : Bool) → tally f (sink cmp x ys) ≡ f x + tally f ys → tally f (cond {A = List X} b (y ∷ sink cmp x ys) (x ∷ y ∷ ys)) ≡ f x + (f y + tally f ys)
  go true r = omega (arith, r)
  go false r = refl

-- the order changes no weighing
pub tally-in_order : {X : Type 0} (cmp : X → X → Ordering) (f : X → ℕ) (xs : List X) → tally f (in_order cmp xs) ≡ tally f xs
tally-in_order cmp f [] = refl
tally-in_order cmp f (x ∷ xs) = let a = tally-sink cmp f x (in_order cmp xs) in let b = tally-in_order cmp f xs in omega (arith, a, b)
