-- Rows and values after those that there are.
use Rattle.std.proofs.Common.{◌++◌, ℕ, List, Option, None, Some, Result, Ok, Err}
use Rattle.rmt_values.specs.declared.value.Value.{Value}

-- values after those that there are
abbrev pub with_prefix : List Value → Option (List Value) → Option (List Value)
with_prefix prefix None = None
with_prefix prefix (Some rest) = Some (prefix ++ rest)

-- rows after those that there are
abbrev pub after_rows : List (List Value) → Result (List (List Value)) ℕ → Result (List (List Value)) ℕ
after_rows prefix (Ok rest) = Ok (prefix ++ rest)
after_rows prefix (Err n) = Err n
