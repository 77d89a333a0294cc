-- What a cell answers that is to be set.
-- The Rust crate once_cell, `OnceBox::set`: a cell that is set keeps its value.
use Rattle.std.specs.Prelude.{◌≡◌, Bool, true, false, ℕ, List}
use Rattle.std.specs.Arc.{arc_value}
use Rattle.std.specs.declared.result.Result.{Result}
use Rattle.std.specs.declared.result.Result.TheVariants.{Ok, Err}
use Rattle.rmt_row.specs.Token.{Token, IsOf}
use Rattle.rmt_row.specs.declared.put_error.PutError.{PutError}
use Rattle.rmt_row.specs.declared.put_error.PutError.TheVariants.{Taken, Memory}

-- the token of the cell at this place
abbrev pub IsAt : {T : Type 0} → List ℕ → ℕ → Token T → Type 0
IsAt row i t = (t.place ≡ i) × IsOf row t

-- the cell has the value, or has one that somebody else set
abbrev pub IsSet : {T : Type 0} → List ℕ → ℕ → T → Result (Token T) (PutError T) → Type 0
IsSet row i x (Ok t) = IsAt row i t × (t.value ≡ x)
IsSet row i x (Err (Taken t)) = IsAt row i t
IsSet row i x (Err (Memory a)) = arc_value a ≡ x

-- the cell has an equal value, or has another one
abbrev pub IsPut : {T : Type 0} → (T → T → Bool) → List ℕ → ℕ → T → Result (Token T) (PutError T) → Type 0
IsPut eq row i x (Ok t) = IsAt row i t × (eq t.value x ≡ true)
IsPut eq row i x (Err (Taken t)) = IsAt row i t × (eq t.value x ≡ false)
IsPut eq row i x (Err (Memory a)) = arc_value a ≡ x
