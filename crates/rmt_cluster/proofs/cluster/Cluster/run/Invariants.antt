use Rattle.std.proofs.Common.{◌≡◌, ◌<◌, ◌^◌, length}
use Rattle.rmt_events.specs.Draws.{Runs}
use Rattle.rmt_cluster.proofs.cluster.Cluster.run.Given as goal

abbrev pub invariant-turns : goal.invariant-turns
invariant-turns l =
    Runs l.fn.self l.fn.seed l._turn l.self l.state × (l.state < 2 ^ 31) × (l.self.table.schema ≡ l.fn.self.table.schema)
    × (length l.self.replicas ≡ length l.fn.self.replicas)
