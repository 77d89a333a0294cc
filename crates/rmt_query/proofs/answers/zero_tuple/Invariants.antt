use Rattle.std.proofs.Common.{◌≡◌, map, take}
use Rattle.rmt_query.specs.Cells.{zero_of}
use Rattle.rmt_query.proofs.answers.zero_tuple.Given as goal

abbrev pub invariant-items : goal.invariant-items
invariant-items l = l.cells.items ≡ map (λ i. zero_of l.schema i) (take l.item-index l.items)
