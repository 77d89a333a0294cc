-- A row whose cells are set in order.
-- The order is this program's own: a log's entries are cells, and an entry is appended after those that are there.
use Rattle.std.specs.Prelude.{ℕ, ◌^◌, ◌<◌, ◌≤◌, List, length, slice_index_or}
use Rattle.rmt_row.specs.Token.{Token}

-- the names of the row's cells, of which so many are set, from the first on
pub record Filled : Type 0 where
  pub cells : List ℕ
  pub set : ℕ

-- no more are set than there are
pub record IsFilled (row : Filled) : Type 0 where
  pub within : row.set ≤ length row.cells
  pub few : length row.cells < 2 ^ 64

-- the token of the cell that is set next, with this value
abbrev pub token_after : {T : Type 0} → Filled → T → Token T
token_after row x = record { place = row.set; value = x; cell = slice_index_or row.cells row.set 0 }
