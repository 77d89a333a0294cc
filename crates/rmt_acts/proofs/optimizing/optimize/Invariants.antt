use Rattle.std.proofs.Common.{take}
use Rattle.rmt_acts.proofs.OptimizeLoops.{IsOptimizing}
use Rattle.rmt_acts.proofs.optimizing.optimize.Given as goal

-- the partitions so far have their names
abbrev pub invariant-partitions : goal.invariant-partitions
invariant-partitions l = IsOptimizing l.fn.cluster l.replica (take l.partition-index l.partition-items) l.names.items l.cluster
