-- A part as a cluster sees it, and what a log says of it.
-- ClickHouse documentation, Data Replication: a part has the same rows at each replica, whether it was made there or
-- fetched.
use Rattle.std.specs.Prelude.{◌≡◌, ◌⊎◌, ℕ, ◌<◌, cond, nat_eq, List, [], ◌∷◌}
use Rattle.std.specs.declared.option.Option.{Option}
use Rattle.rmt_values.specs.Rows.{Shape}
use Rattle.rmt_names.specs.Names.{Name, Spans}
use Rattle.rmt_entries.specs.declared.entry.Entry.{Entry}
use Rattle.rmt_entries.specs.declared.entry.Entry.TheVariants.{Get}
use Rattle.rmt_model.specs.Words.{Has, Each, Pairwise}
use Rattle.rmt_model.specs.Content.{Row, Blocks, content}
use Rattle.rmt_model.specs.Parts.{NumberedBlock, IsOf}

-- a part: the place of the entry that made it, its name, the blocks that went into it, its rows in order
pub record Copied : Type 0 where
  pub place : ℕ
  pub name : Name
  pub lineage : List NumberedBlock
  pub rows : List Row

-- the names of the parts
abbrev pub names_of : List Copied → List Name
names_of [] = []
names_of (part ∷ parts) = part.name ∷ names_of parts

-- the rows of blocks by their numbers; none of a number that no block has
abbrev pub blocks_of : List NumberedBlock → Blocks
blocks_of [] p n = []
blocks_of (b ∷ rest) p n = cond (nat_eq b.number n) b.rows (blocks_of rest p n)

-- one of the blocks has this number
abbrev pub HasNumber : List NumberedBlock → ℕ → Type 0
HasNumber [] n = ⊥
HasNumber (b ∷ rest) n = (b.number ≡ n) ⊎ HasNumber rest n

-- these are exactly the log's blocks of the name's range, each with its id, in order of number
pub record AreBlocksOf (log : List Entry) (a : Name) (blocks : List NumberedBlock) : Type 0 where
  pub rising : Pairwise (λ x y. x.number < y.number) blocks
  pub within : Each (λ b. Spans a a.partition b.number × IsOf log a.partition b) blocks
  pub whole : (n source need : ℕ) (digest : List ℕ) → Has log (Get a.partition n digest source need) → Spans a a.partition n → HasNumber blocks n

-- a part's blocks are those of its name, and its rows are the content that the log gives to it
pub record IsCopied (schema : Shape) (log : List Entry) (part : Copied) : Type 0 where
  pub lineage : AreBlocksOf log part.name part.lineage
  pub holds : part.rows ≡ content schema log (blocks_of part.lineage) part.name
