-- Elements of a list by their places.
use Rattle.std.specs.Prelude.{ℕ, zero, suc, ◌+◌, List, [], ◌∷◌, ◌++◌, slice_get}
use Rattle.std.specs.Option.{option_to_list}

-- the elements at these places, counted from 0, in the order of the places
abbrev pub at_places : {X : Type 0} → List X → List ℕ → List X
at_places xs [] = []
at_places xs (i ∷ is) = option_to_list (slice_get xs i) ++ at_places xs is

-- so many numbers from one on
abbrev pub numbers_from : ℕ → ℕ → List ℕ
numbers_from i zero = []
numbers_from i (suc n) = i ∷ numbers_from (i + 1) n
