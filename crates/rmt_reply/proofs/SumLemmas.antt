-- Numbers added up one after the other.
use Rattle.std.proofs.Common.{◌≡◌, ◌+◌, ℕ, List, [], ◌∷◌, ◌++◌, arith}
use Rattle.rmt_reply.specs.Printed.{sum_of}

-- the sum of numbers with one more after them
pub sum_of-more : (ns : List ℕ) (n : ℕ) → sum_of (ns ++ n ∷ []) ≡ sum_of ns + n
sum_of-more [] n = omega arith
sum_of-more (m ∷ ns) n = rw (sum_of-more ns n) (omega arith)
