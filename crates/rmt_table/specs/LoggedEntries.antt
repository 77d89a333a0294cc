-- The entries of a log in the cells of its row.
-- No public clause cites this module.
use Rattle.std.specs.Prelude.{ℕ, List}
use Rattle.rmt_row.specs.Token.{Token}
use Rattle.rmt_entries.specs.declared.entry.Entry.{Entry}

-- the names of the row's cells, and the tokens of those that are set
pub record LoggedEntries : Type 0 where
  pub row : List ℕ
  pub tokens : List (Token Entry)
