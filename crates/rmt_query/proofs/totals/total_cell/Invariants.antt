use Rattle.std.proofs.Common.{take}
use Rattle.rmt_partset.specs.Snapshots.{all_rows, data_in}
use Rattle.rmt_query.specs.Totals.{IsTotal}
use Rattle.rmt_query.proofs.totals.total_cell.Given as goal

abbrev pub invariant-parts : goal.invariant-parts
invariant-parts l = IsTotal l.item (all_rows (data_in (take l.part-index l.parts))) l.total
