-- The commands of the tests, which are small.
use Rattle.std.specs.Prelude.{ℕ, ◌<◌, ◌≤◌, ◌^◌, List, length}
use Rattle.std.specs.List.{AllByRecursion}
use Rattle.rmt_values.specs.declared.checked_right.CheckedRight.{CheckedRight}
use Rattle.rmt_entries.specs.EntryBytes.{SetInRange}

-- at least one set of an UPDATE, and few, each of which has an encoding
pub record AreFew (sets : List (ℕ × CheckedRight)) : Type 0 where
  pub some : 1 ≤ length sets
  pub few : length sets < 2 ^ 16
  pub in_range : AllByRecursion SetInRange sets
