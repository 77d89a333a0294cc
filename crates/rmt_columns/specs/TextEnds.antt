-- Strings one after the other in one list of bytes. No public clause cites this module.
use Rattle.std.specs.Prelude.{◌≡◌, ℕ, zero, suc, ◌≤◌, List, [], ◌∷◌, take, drop, get_or}

-- the Strings that end at these places of the bytes, the first of which begins at a place
abbrev pub texts_of : List ℕ → ℕ → List ℕ → List (List ℕ)
texts_of bytes start [] = []
texts_of bytes start (end ∷ ends) = drop start (take end bytes) ∷ texts_of bytes end ends

-- no String ends before it begins, and the last one ends with the bytes
abbrev pub EndAt : ℕ → List ℕ → ℕ → Type 0
EndAt start [] total = start ≡ total
EndAt start (end ∷ ends) total = (start ≤ end) × EndAt end ends total

-- where the i-th String begins
abbrev pub start_of : List ℕ → ℕ → ℕ
start_of ends zero = 0
start_of ends (suc i) = get_or ends i 0
