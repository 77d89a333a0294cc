use Rattle.std.proofs.Common.{take}
use Rattle.rmt_columns.specs.RowsByColumn.{row_at}
use Rattle.rmt_block.proofs.BytesLemmas.{Written}
use Rattle.rmt_block.proofs.spelling.push_row.Given as goal

abbrev pub invariant-values : goal.invariant-values
invariant-values l = Written l.fn.out.items l.out.items (row_at l.i (take l.column-index l.columns))
