use Rattle.std.proofs.Common.{◌≡◌, drop}
use Rattle.rmt_partitions.specs.NumbersInOrder.{first_at}
use Rattle.rmt_partitions.proofs.partitions.first_from.Given as goal

abbrev pub invariant-loop-pair : goal.invariant-loop-pair
invariant-loop-pair l = first_at l.limit l.pairs ≡ first_at l.limit (drop l.pair-index l.pairs)
