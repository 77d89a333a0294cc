use Rattle.std.proofs.Common.{◌≡◌, take}
use Rattle.rmt_columns.specs.RowsByColumn.{kinds_in}
use Rattle.rmt_block.proofs.block.kinds_of.Given as goal

abbrev pub invariant-columns : goal.invariant-columns
invariant-columns l = l.kinds.items ≡ kinds_in (take l.column-index l.fn.columns)
