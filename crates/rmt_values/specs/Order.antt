-- The stable order of a list, and lists as bags.
use Rattle.std.specs.Prelude.{◌≡◌, ℕ, ◌+◌, cond, List, [], ◌∷◌}
use Rattle.std.specs.declared.cmp.Ordering.{Ordering}
use Rattle.std.specs.declared.cmp.Ordering.TheVariants.{Equal}
use Rattle.std.specs.Ordering.{is_gt}

-- x put before the first element that it isn't above
abbrev pub sink : {X : Type 0} → (X → X → Ordering) → X → List X → List X
sink cmp x [] = x ∷ []
sink cmp x (y ∷ ys) = cond (is_gt (cmp x y)) (y ∷ sink cmp x ys) (x ∷ y ∷ ys)

-- the elements in order, ties as they were
abbrev pub in_order : {X : Type 0} → (X → X → Ordering) → List X → List X
in_order cmp [] = []
in_order cmp (x ∷ xs) = sink cmp x (in_order cmp xs)

-- the weights of the elements, added up
abbrev pub tally : {X : Type 0} → (X → ℕ) → List X → ℕ
tally f [] = 0
tally f (x ∷ xs) = f x + tally f xs

-- the lists have the same elements, each as often: every weighing finds them alike
abbrev pub SameBag : {X : Type 0} → List X → List X → Type 0
SameBag {X} xs ys = (f : X → ℕ) → tally f xs ≡ tally f ys

-- a fold over a list, its last element first
abbrev pub folded : {X S : Type 0} → (X → S → S) → S → List X → S
folded step start [] = start
folded step start (x ∷ xs) = step x (folded step start xs)
