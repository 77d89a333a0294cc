-- The names that a set has.
-- The set is one of byte strings, in their order.
use Rattle.std.specs.Prelude.{◌≡◌, ℕ, List}
use Rattle.std.specs.Borrow.{Bor}
use Rattle.std.specs.Cmp.Lexicographic.{slice_cmp}
use Rattle.std.specs.Ordering.{nat_cmp}
use Rattle.std.specs.BTreeSet.{BTreeSet, contains}
use Rattle.rmt_values.specs.Schemas.{has_name}

-- the set has exactly these names
abbrev pub HasNames : List (List ℕ) → BTreeSet (Bor (List ℕ)) → Type 0
HasNames names set = (q : Bor (List ℕ)) → contains (λ x y. slice_cmp nat_cmp x.now y.now) set q ≡ has_name names q.now
