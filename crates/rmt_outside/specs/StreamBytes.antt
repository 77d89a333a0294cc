-- What calls do with the bytes that a source has left and a sink has got.
-- Nothing is claimed of bytes that aren't known.
use Rattle.std.specs.Prelude.{◌≡◌, ℕ, ◌≤◌, List, [], ◌++◌, length, IfOk}
use Rattle.std.specs.declared.option.Option.{Option}
use Rattle.std.specs.declared.result.Result.{Result}
use Rattle.std.specs.Io.KnownBytes.{Appends, Consumes}

-- of a piece that isn't empty at least one byte is taken
abbrev pub TakesSome : {E : Type 0} → Result ℕ E → List ℕ → Type 0
TakesSome result piece = IfOk result (λ n. n ≡ 0 → piece ≡ [])

-- at most this many bytes were taken
abbrev pub ConsumesUpTo : Option (List ℕ) → Option (List ℕ) → ℕ → Type 0
ConsumesUpTo old new limit = (taken : List ℕ) × Consumes old new taken × (length taken ≤ limit)

-- exactly this many bytes were taken
abbrev pub ConsumesExactly : Option (List ℕ) → Option (List ℕ) → ℕ → Type 0
ConsumesExactly old new count = (taken : List ℕ) × Consumes old new taken × (length taken ≡ count)

-- a prefix of these bytes was appended
abbrev pub AppendsPrefix : Option (List ℕ) → Option (List ℕ) → List ℕ → Type 0
AppendsPrefix old new bytes = (prefix rest : List ℕ) × (prefix ++ rest ≡ bytes) × Appends old new prefix
