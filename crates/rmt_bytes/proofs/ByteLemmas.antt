-- Lists of bytes.
use Rattle.std.proofs.Common.{ℕ, suc, ◌<◌, ◌≤◌, List, [], ◌∷◌, length, get_or, arith}
use Rattle.rmt_values.specs.declared.value.Value.TheVariants.{Text}
use Rattle.rmt_bytes.specs.Encoding.{AreBytes, IsInRange}

-- what holds of each place holds of each element
pub are_bytes : (bytes : List ℕ) → ((i : ℕ) → get_or bytes i 0 < 256) → AreBytes bytes
are_bytes [] each = tt
are_bytes (b ∷ bytes) each = (each 0, are_bytes bytes (λ i. each (suc i)))

-- a String that is no longer than its length can tell has an encoding
pub text_in_range : (s : List ℕ) → ((i : ℕ) → get_or s i 0 < 256) → length s ≤ 65535 → IsInRange (Text s)
text_in_range s each at = (omega (arith, at), are_bytes s each)
