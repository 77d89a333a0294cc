-- The limits that one more block number would pass.
-- No public source: the limits are this program's own.
use Rattle.std.specs.Prelude.{◌≡◌, ℕ, ◌&&◌, cond, nat_eq, nat_le, List, length}
use Rattle.std.specs.declared.option.Option.{Option}
use Rattle.std.specs.declared.option.Option.TheVariants.{Some, None}
use Rattle.rmt_values.specs.declared.limit.Limit.{Limit}
use Rattle.rmt_values.specs.declared.limit.Limit.TheVariants as limits
use Rattle.rmt_model.specs.BlockNumbers.{next_number}
use Rattle.rmt_inserts.specs.declared.number_error.NumberError.{NumberError}
use Rattle.rmt_inserts.specs.declared.number_error.NumberError.TheVariants.{LimitReached, Memory}

-- the limit that one more partition would pass
abbrev pub partitions_limit : List (Option ℕ × ℕ) → Option (Limit × ℕ)
partitions_limit next = cond (nat_le 1024 (length next)) (Some (limits.Partitions, length next)) None

-- the limit that one more number would pass, after so many
abbrev pub count_limit : ℕ → Option (Limit × ℕ)
count_limit count = cond (nat_le 65536 count) (Some (limits.Numbers, count)) None

-- the first limit that one more number of p would pass, and its count as it stands
abbrev pub number_limit : List (Option ℕ × ℕ) → Option ℕ → Option (Limit × ℕ)
number_limit next p =
    cond (nat_eq (next_number next p) 0 && nat_le 1024 (length next)) (Some (limits.Partitions, length next))
    (cond (nat_le 65536 (next_number next p)) (Some (limits.Numbers, next_number next p)) None)

-- an error is that limit, or out of memory
abbrev pub IsNumberError : Option (Limit × ℕ) → NumberError → Type 0
IsNumberError first (LimitReached limit value) = first ≡ Some (limit, value)
IsNumberError first Memory = Unit {0}
