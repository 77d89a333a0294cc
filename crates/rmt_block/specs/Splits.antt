-- How the rows of an INSERT are split into blocks.
-- ClickHouse documentation: INSERT INTO; MergeTree, custom partitioning key. That blocks are in the order of partitions is
-- this program's own.
use Rattle.std.specs.Prelude.{◌≡◌, ◌<◌, Bool, true, ℕ, nat_eq, List, length, map, filter}
use Rattle.std.specs.Ordering.{nat_cmp}
use Rattle.std.specs.List.{All, list_any}
use Rattle.std.specs.List.Sorted.{IsStrictlySortedBy}
use Rattle.std.specs.declared.option.Option.{Option}
use Rattle.rmt_values.specs.declared.value.Value.{Value}
use Rattle.rmt_values.specs.declared.partition_rule.PartitionRule.{PartitionRule}
use Rattle.rmt_values.specs.Rows.{Shape}
use Rattle.rmt_values.specs.Partitions.{partition_of}
use Rattle.rmt_names.specs.Names.{rank}
use Rattle.rmt_columns.specs.RowsByColumn.{kinds_in}
use Rattle.rmt_block.specs.Blocks.{BlockView, block_of}

-- the row is of this partition
abbrev pub is_in : Option PartitionRule → Option ℕ → List Value → Bool
is_in rule p row = nat_eq (rank (partition_of rule row)) (rank p)

-- the block of all rows of one partition, in the order in which they were offered; there is at least one
pub record IsBlockOf (shape : Shape) (rows : List (List Value)) (b : BlockView) : Type 0 where
  pub whole : b ≡ block_of b.partition (kinds_in shape.columns) (filter (is_in shape.partition b.partition) rows)
  pub some : 0 < length b.rows

-- the blocks of an INSERT: one for each partition that its rows are of, in the order of partitions
pub record IsSplit (shape : Shape) (rows : List (List Value)) (blocks : List BlockView) : Type 0 where
  pub rising : IsStrictlySortedBy nat_cmp (map (λ b. rank b.partition) blocks)
  pub each : All (IsBlockOf shape rows) blocks
  pub all : All (λ row. list_any (λ b. is_in shape.partition b.partition row) blocks ≡ true) rows
