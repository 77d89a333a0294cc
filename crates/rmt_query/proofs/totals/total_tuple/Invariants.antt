use Rattle.std.proofs.Common.{◌≡◌, map, take}
use Rattle.rmt_partset.specs.Snapshots.{all_rows, data_in}
use Rattle.rmt_query.specs.OverRows.{over}
use Rattle.rmt_query.proofs.totals.total_tuple.Given as goal

abbrev pub invariant-items : goal.invariant-items
invariant-items l = l.cells.items ≡ map (λ i. over i (all_rows (data_in l.parts))) (take l.item-index l.items)
