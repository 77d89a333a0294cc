use Rattle.std.proofs.Common.{◌≡◌, ◌++◌, drop, take}
use Rattle.rmt_model.specs.BlockNumbers.{next_numbers_after}
use Rattle.rmt_partitions.proofs.partitions.count_up.Given as goal

abbrev pub invariant-loop-pair : goal.invariant-loop-pair
invariant-loop-pair l = l.pairs ≡ next_numbers_after (take l.pair-index l.fn.pairs) ++ drop l.pair-index l.fn.pairs
