use Rattle.std.proofs.Common.{◌≡◌, ◌++◌, map}
use Rattle.std.specs.List.{All}
use Rattle.rmt_columns.specs.RowsByColumn.{kinds_in}
use Rattle.rmt_block.specs.Groups.{IsGroup, group_block}
use Rattle.rmt_block.proofs.groups.blocks_of.Given as goal

abbrev pub invariant-groups : goal.invariant-groups
invariant-groups l =
    (l.blocks.items ++ map (group_block (kinds_in l.schema.columns) l.rows.rows) l.partition-iterator ≡ map (group_block (kinds_in l.schema.columns) l.rows.rows) l.fn.groups.entries)
    × All (IsGroup (kinds_in l.schema.columns) l.rows.rows) l.partition-iterator
