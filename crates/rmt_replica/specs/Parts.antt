-- The parts of a replica, the blocks that went into them, and the parts that it noted.
-- ClickHouse documentation, MergeTree, "Data storage": an inserted block is a data part; Data Replication: each replica makes
-- its parts by the entries of the log.
use Rattle.std.specs.Prelude.{◌≡◌, ◌⊎◌, List, [], ◌∷◌, ◌++◌, map}
use Rattle.rmt_values.specs.Rows.{Shape}
use Rattle.rmt_names.specs.Names.{Name}
use Rattle.rmt_entries.specs.declared.entry.Entry.{Entry}
use Rattle.rmt_block.specs.Blocks.{BlockView, id_of}
use Rattle.rmt_block.specs.declared.block_id.BlockId.{BlockId}
use Rattle.rmt_model.specs.Words.{Has}
use Rattle.rmt_model.specs.Live.{made, Dropped}
use Rattle.rmt_model.specs.Fair.{CoveredBy}
use Rattle.rmt_part.specs.Lineages.{PartValue, IsPart, IsOfLog}

-- a part of the table that was made within a copy of its log
pub record IsMadeIn (schema : Shape) (log : List Entry) (part : PartValue) : Type 0 where
  pub is_part : IsPart part
  pub of_schema : part.schema ≡ schema
  pub of_log : IsOfLog log part

-- a part that was noted was made in the log; one of these names covers it, or it is dropped
abbrev pub IsKeptNote : List Entry → List Name → Name → Type 0
IsKeptNote log names a = Has (made log) a × (CoveredBy names a ⊎ Dropped log a)

-- the blocks of parts, one part after the other
abbrev pub part_blocks : List PartValue → List BlockView
part_blocks [] = []
part_blocks (part ∷ parts) = map (λ b. b.block) part.blocks ++ part_blocks parts

-- the ids of the parts' blocks
abbrev pub part_ids : List PartValue → List BlockId
part_ids parts = map id_of (part_blocks parts)
