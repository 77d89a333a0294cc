-- The window of kept ids, as the list of the kept blocks.
-- ClickHouse documentation, Data Replication, on blocks that are inserted again (replicated_deduplication_window).
-- That the oldest ids go by count alone is this program's own.
use Rattle.std.specs.Prelude.{◌≡◌, ℕ, List, [], ◌∷◌, ◌++◌}
use Rattle.rmt_names.specs.Names.{Name}
use Rattle.rmt_block.specs.declared.block_id.BlockId.{BlockId}
use Rattle.rmt_table_model.specs.Kept.{Placed}
use Rattle.rmt_inserts.specs.declared.kept_block.KeptBlock.{KeptBlock}

-- the kept blocks, the newest first, how many were kept so far, and how many more fit with no memory
pub record WindowView : Type 0 where
  pub placed : List Placed
  pub count : ℕ
  pub room : ℕ

-- a block that is kept under the id, with its part and its number in the order of acceptance
abbrev pub placed_as : BlockId → Name → ℕ → Placed
placed_as id part number = record { number = number; kept = record { digest = id.digest; part = part } }

-- an entry as a kept block
abbrev pub placed_of : BlockId × KeptBlock → Placed
placed_of e = placed_as e.0 e.1.part e.1.number

-- the blocks of these entries, the last of them first
abbrev pub newest_first : List (BlockId × KeptBlock) → List Placed
newest_first [] = []
newest_first (e ∷ es) = newest_first es ++ placed_of e ∷ []

-- each id is of its part's partition
abbrev pub AreOfParts : List (BlockId × KeptBlock) → Type 0
AreOfParts [] = Unit {0}
AreOfParts (e ∷ es) = (e.0.partition ≡ e.1.part.partition) × AreOfParts es
