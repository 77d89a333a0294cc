-- Which parts to merge next, and which to mutate.
-- ClickHouse documentation, MergeTree, "Data storage": parts are merged in the background. Which ones are chosen is
-- this program's own.
use Rattle.std.specs.Prelude.{◌≡◌, ℕ, ◌<◌, ◌≤◌, false, List, ◌∷◌, ◌++◌, length}
use Rattle.rmt_names.specs.Names.{Name}
use Rattle.rmt_entries.specs.declared.entry.Entry.{Entry}
use Rattle.rmt_model.specs.Words.{Has}
use Rattle.rmt_model.specs.Live.{live}
use Rattle.rmt_model.specs.Lawful.{ver, AreNeighbours}
use Rattle.rmt_model.specs.Choices.{are_alike, run_at, greatest_level}

-- how many parts a background merge takes at most
pub record MergeLimits : Type 0 where
  pub most : ℕ

-- what may be merged next: neighbours among the live names, two or more and at most `most`, of one partition and one
-- version, and no other run that begins at a live name has a lower greatest level
pub record IsChoice (log : List Entry) (most : ℕ) (names : List Name) : Type 0 where
  pub neighbours : AreNeighbours log names
  pub some : 2 ≤ length names
  pub few : length names ≤ most
  pub alike : (a b : Name) → Has names a → Has names b → (a.partition ≡ b.partition) × (ver log a ≡ ver log b)
  pub least : (left right : List Name) → left ++ right ≡ live log → 2 ≤ length (run_at log most right)
      → greatest_level names ≤ greatest_level (run_at log most right)

-- the names are the run that begins after the live names `left`, and each run of two names or more that begins
-- earlier has a higher greatest level
pub record IsFirstChoice (log : List Entry) (most : ℕ) (names : List Name) : Type 0 where
  pub left : List Name
  pub right : List Name
  pub among : left ++ right ≡ live log
  pub run : names ≡ run_at log most right
  pub earlier : (before after : List Name) → before ++ after ≡ live log → length before < length left
      → 2 ≤ length (run_at log most after) → greatest_level names < greatest_level (run_at log most after)

-- no two neighbours are of one partition and one version
abbrev pub NoneAlike : List Entry → Type 0
NoneAlike log = (left right : List Name) (a b : Name) → left ++ a ∷ b ∷ right ≡ live log → are_alike log a b ≡ false
