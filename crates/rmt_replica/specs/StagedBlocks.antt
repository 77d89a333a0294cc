-- Blocks that wait at a replica for their Get.
use Rattle.std.specs.Prelude.{◌≡◌, List}
use Rattle.std.specs.declared.option.Option.{Option}
use Rattle.std.specs.declared.cmp.Ordering.{Ordering}
use Rattle.std.specs.Ordering.{nat_cmp, ordering_then}
use Rattle.std.specs.Option.{option_cmp}
use Rattle.std.specs.List.Sorted.{IsStrictlySortedBy}
use Rattle.std.specs.Map.{keys_of, lookup, remove_entry}
use Rattle.std.specs.BTreeMap.{insert_entry, is_at}
use Rattle.rmt_block.specs.Blocks.{BlockView}
use Rattle.rmt_model.specs.Words.{Each}
use Rattle.rmt_replica.specs.declared.block_number.BlockNumber.{BlockNumber}

-- the staged blocks with their numbers, in order
abbrev pub Staged : Type 0
Staged = List (BlockNumber × BlockView)

-- numbers by partition, and then as they stand
abbrev pub number_cmp : BlockNumber → BlockNumber → Ordering
number_cmp a b = ordering_then (option_cmp nat_cmp a.partition b.partition) (nat_cmp a.number b.number)

-- the numbers rise, and each block is staged under its own partition
pub record AreStaged (staged : Staged) : Type 0 where
  pub rising : IsStrictlySortedBy number_cmp (keys_of staged)
  pub own : Each (λ z. z.0.partition ≡ z.1.partition) staged

-- the block that is staged under a number
abbrev pub staged_at : Staged → BlockNumber → Option BlockView
staged_at staged at = lookup (is_at (number_cmp at)) staged

-- with a block under a number, in place of what was there
abbrev pub with_staged : Staged → BlockNumber → BlockView → Staged
with_staged staged at block = insert_entry number_cmp staged at block

-- without what is staged under a number
abbrev pub without : Staged → BlockNumber → Staged
without staged at = remove_entry (is_at (number_cmp at)) staged
