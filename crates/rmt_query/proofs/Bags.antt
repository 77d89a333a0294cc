-- Equal bags: in order they are equal lists, and folds whose steps commute tell them alike.
use Rattle.std.proofs.Common.{◌≡◌, ℕ, zero, suc, ◌+◌, Bool, true, false, cond, List, [], ◌∷◌, filter, is_lt, refl, sym, ap, ◌∙◌, arith}
use Rattle.std.specs.declared.cmp.Ordering.{Ordering}
use Rattle.std.specs.declared.cmp.Ordering.TheVariants.{Equal}
use Rattle.std.specs.Ordering.{is_gt}
use Rattle.std.specs.Cmp.{IsTotalOrder}
use Rattle.std.specs.List.Sorted.{ties}
use Rattle.rmt_values.specs.Order.{sink, in_order, tally, SameBag, folded}
use Rattle.rmt_values.proofs.Sorting.{tied, Up-in_order, filter-in_order, same_from_ties}

-- what ties is the same
abbrev pub IsExact : {X : Type 0} → (X → X → Ordering) → Type 0
IsExact {X} cmp = (x y : X) → cmp x y ≡ Equal → x ≡ y

-- two steps may change places
abbrev pub Commutes : {X S : Type 0} → (X → S → S) → Type 0
Commutes {X} {S} step = (x y : X) (s : S) → step x (step y s) ≡ step y (step x s)

-- n times x
abbrev times : {X : Type 0} → ℕ → X → List X
times zero x = []
times (suc n) x = x ∷ times n x

abbrev one-if : Bool → ℕ
one-if true = 1
one-if false = 0

module _ {X : Type 0} (cmp : X → X → Ordering) (o : IsTotalOrder cmp) (exact : IsExact cmp) where
  abbrev same : X → X → Bool
  same = ties (λ x y. is_lt (cmp x y))

  copies : (x : X) (ys : List X) → filter (same x) ys ≡ times (tally (λ y. one-if (same x y)) ys) x
  copies x [] = refl
  copies x (y ∷ ys) = go (same x y) refl (copies x ys) where
    go : (b : Bool) → same x y ≡ b → filter (same x) ys ≡ times (tally (λ z. one-if (same x z)) ys) x → cond b (y ∷ filter (same x) ys) (filter (same x) ys) ≡ times (one-if b + tally (λ z. one-if (same x z)) ys) x
    go true e r =
        let n = tally (λ z. one-if (same x z)) ys in
        let more : 1 + n ≡ suc n = omega arith in
        ap (λ w. w ∷ filter (same x) ys) (sym (exact x y (tied cmp o x y e))) ∙ (ap (λ l. x ∷ l) r ∙ ap (λ k. times k x) (sym more))
    go false e r = let n = tally (λ z. one-if (same x z)) ys in let more : 0 + n ≡ n = omega arith in r ∙ ap (λ k. times k x) (sym more)

  -- equal bags are one list once in order
  pub bag-order : (xs ys : List X) → SameBag xs ys → in_order cmp xs ≡ in_order cmp ys
  bag-order xs ys bag =
      same_from_ties cmp o (in_order cmp xs) (in_order cmp ys) (Up-in_order cmp o xs) (Up-in_order cmp o ys)
      (λ x. filter-in_order cmp o x xs ∙ (copies x xs ∙ (ap (λ k. times k x) (bag (λ y. one-if (same x y))) ∙ (sym (copies x ys) ∙ sym (filter-in_order cmp o x ys)))))

module _ {X S : Type 0} (cmp : X → X → Ordering) (step : X → S → S) (start : S) (c : Commutes step) where
  folded-sink : (x : X) (ys : List X) → folded step start (sink cmp x ys) ≡ step x (folded step start ys)
  folded-sink x [] = refl
  folded-sink x (y ∷ ys) = go (is_gt (cmp x y)) (folded-sink x ys) where
    go : (b : Bool) → folded step start (sink cmp x ys) ≡ step x (folded step start ys) → folded step start (cond {A = List X} b (y ∷ sink cmp x ys) (x ∷ y ∷ ys)) ≡ step x (step y (folded step start ys))
    go true r = ap (step y) r ∙ c y x (folded step start ys)
    go false r = refl

  -- putting a list in order changes no fold whose steps commute
  pub folded-order : (xs : List X) → folded step start (in_order cmp xs) ≡ folded step start xs
  folded-order [] = refl
  folded-order (x ∷ xs) = folded-sink x (in_order cmp xs) ∙ ap (step x) (folded-order xs)

module _ {X S : Type 0} (cmp : X → X → Ordering) (o : IsTotalOrder cmp) (exact : IsExact cmp) (step : X → S → S) (start : S) (c : Commutes step) where
  -- a fold whose steps commute tells equal bags alike
  pub folded-bag : (xs ys : List X) → SameBag xs ys → folded step start xs ≡ folded step start ys
  folded-bag xs ys bag = sym (folded-order cmp step start c xs) ∙ (ap (folded step start) (bag-order cmp o exact xs ys bag) ∙ folded-order cmp step start c ys)
