use Rattle.std.proofs.Common.{◌-◌, length}
use Rattle.rmt_cluster.proofs.SyncLemmas.{IsSyncing}
use Rattle.rmt_cluster.proofs.cluster.Cluster.drain.Given as goal

abbrev pub invariant-entries : goal.invariant-entries
invariant-entries l = IsSyncing l.fn.self l.replica l.from l.self

abbrev pub decreases-entries : goal.decreases-entries
decreases-entries l = length l.self.table.log - l.from
