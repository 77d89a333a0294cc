-- The steps of a merge of two lists that stand in order.
use Rattle.std.proofs.Common.{◌≡◌, ℕ, zero, suc, ◌+◌, ◌<◌, ◌≤◌, ◌⊎◌, true, false, List, [], ◌∷◌, ◌++◌, length, get_or, drop, drop-cons, append_assoc, append-nil, refl, sym, ap, subst, arith, ◌∙◌, inl, inr}
use Rattle.std.specs.declared.cmp.Ordering.{Ordering}
use Rattle.std.specs.Ordering.{is_gt}
use Rattle.std.specs.Cmp.{IsTotalOrder}
use Rattle.rmt_values.specs.Order.{in_order}
use Rattle.rmt_values.proofs.Sorting.{Low, Up}
use Rattle.rmt_granules.proofs.StableOrder.{Low-down, Low-joined, order-ordered, order-first, order-second, ordered-up, low-behind}

pub drop-past : {X : Type 0} (xs : List X) (i : ℕ) → length xs ≤ i → drop i xs ≡ []
drop-past [] zero h = refl
drop-past [] (suc i) h = refl
drop-past (x ∷ xs) zero h = absurd (omega (arith, h))
drop-past (x ∷ xs) (suc i) h = drop-past xs i (omega (arith, h))

module _ {X : Type 0} (cmp : X → X → Ordering) (o : IsTotalOrder cmp) where
  Up-drop : (i : ℕ) (xs : List X) → Up cmp o xs → Up cmp o (drop i xs)
  Up-drop zero xs u = u
  Up-drop (suc i) [] u = tt
  Up-drop (suc i) (x ∷ xs) u = Up-drop i xs u.1

  there-or : (xs : List X) (i : ℕ) (x : X) → x ≡ get_or xs i x → i < length xs → drop i xs ≡ x ∷ drop (i + 1) xs
  there-or xs i x e h = let n : i + 1 ≡ suc i = omega arith in rw n (drop-cons xs i x h ∙ ap (λ y. y ∷ drop (suc i) xs) (sym e))

  -- the head of the first list is taken where it isn't above that of the second
  pub merge-first : (out left right all : List X) (i j : ℕ) (a b : X) → in_order cmp left ≡ left → in_order cmp right ≡ right → a ≡ get_or left i a → b ≡ get_or right j b → i < length left → j < length right → is_gt (cmp a b) ≡ false → out ++ in_order cmp (drop i left ++ drop j right) ≡ all → (out ++ a ∷ []) ++ in_order cmp (drop (i + 1) left ++ drop j right) ≡ all
  merge-first out left right all i j a b ol or ea eb hi hj h e =
      let da = there-or left i a ea hi in
      let db = there-or right j b eb hj in
      let ua : Up cmp o (a ∷ drop (i + 1) left) = subst (Up cmp o) da (Up-drop i left (ordered-up cmp o left ol)) in
      let ub : Up cmp o (b ∷ drop (j + 1) right) = subst (Up cmp o) db (Up-drop j right (ordered-up cmp o right or)) in
      let low : Low cmp o a (drop j right) = subst (Low cmp o a) (sym db) (low-behind cmp o a b (drop (j + 1) right) h ub) in
      append_assoc out (a ∷ []) (in_order cmp (drop (i + 1) left ++ drop j right))
      ∙ (ap (λ l. out ++ l) (sym (order-first cmp o a (drop (i + 1) left) (drop j right) ua low))
      ∙ (ap (λ l. out ++ in_order cmp (l ++ drop j right)) (sym da) ∙ e))

  -- the head of the second is taken where that of the first is above it
  pub merge-second : (out left right all : List X) (i j : ℕ) (a b : X) → in_order cmp left ≡ left → in_order cmp right ≡ right → a ≡ get_or left i a → b ≡ get_or right j b → i < length left → j < length right → is_gt (cmp a b) ≡ true → out ++ in_order cmp (drop i left ++ drop j right) ≡ all → (out ++ b ∷ []) ++ in_order cmp (drop i left ++ drop (j + 1) right) ≡ all
  merge-second out left right all i j a b ol or ea eb hi hj h e =
      let da = there-or left i a ea hi in
      let db = there-or right j b eb hj in
      let ua : Up cmp o (a ∷ drop (i + 1) left) = subst (Up cmp o) da (Up-drop i left (ordered-up cmp o left ol)) in
      let ub : Up cmp o (b ∷ drop (j + 1) right) = subst (Up cmp o) db (Up-drop j right (ordered-up cmp o right or)) in
      append_assoc out (b ∷ []) (in_order cmp (drop i left ++ drop (j + 1) right))
      ∙ (ap (λ l. out ++ b ∷ in_order cmp (l ++ drop (j + 1) right)) da
      ∙ (ap (λ l. out ++ l) (sym (order-second cmp o a (drop (i + 1) left) b (drop (j + 1) right) ua ub h))
      ∙ (ap (λ l. out ++ in_order cmp (l ++ b ∷ drop (j + 1) right)) (sym da)
      ∙ (ap (λ l. out ++ in_order cmp (drop i left ++ l)) (sym db) ∙ e))))

  -- once one of them is at its end, what is left of the other follows
  pub merge-end : (out left right all : List X) (i j : ℕ) → in_order cmp left ≡ left → in_order cmp right ≡ right → (length left ≤ i) ⊎ (length right ≤ j) → out ++ in_order cmp (drop i left ++ drop j right) ≡ all → (out ++ drop i left) ++ drop j right ≡ all
  merge-end out left right all i j ol or (inl h) e =
      let d : drop i left ≡ [] = drop-past left i h in
      append_assoc out (drop i left) (drop j right)
      ∙ (ap (λ l. out ++ l) (ap (λ l. l ++ drop j right) d ∙ (sym (order-ordered cmp o (drop j right) (Up-drop j right (ordered-up cmp o right or))) ∙ ap (λ l. in_order cmp (l ++ drop j right)) (sym d))) ∙ e)
  merge-end out left right all i j ol or (inr h) e =
      let d : drop j right ≡ [] = drop-past right j h in
      append_assoc out (drop i left) (drop j right)
      ∙ (ap (λ l. out ++ l) (ap (λ l. drop i left ++ l) d ∙ (append-nil (drop i left) ∙ (sym (order-ordered cmp o (drop i left) (Up-drop i left (ordered-up cmp o left ol))) ∙ (ap (in_order cmp) (sym (append-nil (drop i left))) ∙ ap (λ l. in_order cmp (drop i left ++ l)) (sym d))))) ∙ e)

  -- ---- a second list that stands after the first

  Low-at : (x a : X) (xs : List X) (i : ℕ) → Low cmp o x xs → i < length xs → a ≡ get_or xs i a → is_gt (cmp x a) ≡ false
  Low-at x a [] i l h e = absurd (omega (arith, h))
  Low-at x a (y ∷ ys) zero l h e = ap (λ z. is_gt (cmp x z)) e ∙ l.0
  Low-at x a (y ∷ ys) (suc i) l h e = Low-at x a ys i l.1 (omega (arith, h)) e

  -- where the last of the first list isn't above what follows, the joined lists stand in order
  Up-joined : (xs ys : List X) (i : ℕ) (a : X) → Up cmp o xs → Up cmp o ys → i + 1 ≡ length xs → a ≡ get_or xs i a → Low cmp o a ys → Up cmp o (xs ++ ys)
  Up-joined [] ys i a u v h e l = v
  Up-joined (x ∷ []) ys zero a u v h e l = (subst (λ z. Low cmp o z ys) e l, v)
  Up-joined (x ∷ []) ys (suc i) a u v h e l = absurd (omega (arith, h))
  Up-joined (x ∷ z ∷ xs) ys zero a u v h e l = absurd (omega (arith, h))
  Up-joined (x ∷ z ∷ xs) ys (suc i) a u v h e l = (
    Low-joined cmp o x (z ∷ xs) ys u.0 (Low-down cmp o x a ys (Low-at x a (z ∷ xs) i u.0 (omega (arith, h)) e) l),
    Up-joined (z ∷ xs) ys i a u.1 v (omega (arith, h)) e l,
  )

  -- lists of which the first's last isn't above the second's first are merged by putting one after the other
  pub merge-joined : (left right : List X) (i : ℕ) (a b : X) → in_order cmp left ≡ left → in_order cmp right ≡ right → i + 1 ≡ length left → 0 < length right → a ≡ get_or left i a → b ≡ get_or right 0 b → is_gt (cmp a b) ≡ false → in_order cmp (left ++ right) ≡ left ++ right
  merge-joined left [] i a b ol or hi hr ea eb h = absurd (omega (arith, hr))
  merge-joined left (y ∷ ys) i a b ol or hi hr ea eb h =
      order-ordered cmp o (left ++ y ∷ ys)
      (Up-joined left (y ∷ ys) i a (ordered-up cmp o left ol) (ordered-up cmp o (y ∷ ys) or) hi ea
      (low-behind cmp o a y ys (ap (λ z. is_gt (cmp a z)) (sym eb) ∙ h) (ordered-up cmp o (y ∷ ys) or)))
