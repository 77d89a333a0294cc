use Rattle.std.proofs.Common.{true, take}
use Rattle.std.specs.declared.option.Option.TheVariants.{None}
use Rattle.rmt_statement_model.specs.Optimizes.{OptimizesAll}
use Rattle.rmt_workers.specs.CrewInserts.{TakesInto}
use Rattle.rmt_workers.proofs.crew.Crew.optimize.Given as goal

-- the partitions so far have their names
abbrev pub invariant-partitions : goal.invariant-partitions
invariant-partitions g l =
    TakesInto g.N.Naming.offered l.initial.pass l.table (λ t u. OptimizesAll true t l.replica (take l.partition-index l.partition-items) l.names.items None u) l.pass
