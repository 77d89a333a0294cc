-- Done marks, one for each place of a log.
-- ClickHouse documentation, Data Replication: each replica works through the entries of the log by itself.
use Rattle.std.specs.Prelude.{◌≡◌, ℕ, ◌<◌, ◌≤◌, ◌-◌, Bool, true, false, List, ◌++◌, length, replicate, slice_index_or}

-- whether a place is done; a place without a mark isn't
abbrev pub done_at : List Bool → ℕ → Bool
done_at marks i = slice_index_or marks i false

-- every place is done
abbrev pub AllDone : List Bool → Type 0
AllDone marks = (i : ℕ) → i < length marks → done_at marks i ≡ true

-- the lowest place that isn't done
pub record IsLowest (marks : List Bool) (i : ℕ) : Type 0 where
  pub within : i < length marks
  pub pending : done_at marks i ≡ false
  pub below : (k : ℕ) → k < i → done_at marks k ≡ true

-- marks for so many places: the new ones aren't done
abbrev pub grown : List Bool → ℕ → List Bool
grown marks len = marks ++ replicate (len - length marks) false

-- how many are done from the start on: all places below are, and this one isn't, where there is one
pub record IsDonePrefix (marks : List Bool) (prefix : ℕ) : Type 0 where
  pub within : prefix ≤ length marks
  pub below : (k : ℕ) → k < prefix → done_at marks k ≡ true
  pub pending : prefix < length marks → done_at marks prefix ≡ false
