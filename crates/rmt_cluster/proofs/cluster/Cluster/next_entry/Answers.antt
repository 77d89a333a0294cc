use Rattle.std.proofs.Common.{◌≤◌, length, subst}
use Rattle.rmt_replica.specs.SeenReplica.{shown}
use Rattle.rmt_events.specs.Clusters.{Cluster}
use Rattle.rmt_events.specs.ClusterChanges.{IsNumbered}
use Rattle.rmt_events.specs.Whole.{IsWhole}
use Rattle.rmt_cluster.specs.Syncs.{IsNext}
use Rattle.rmt_state.proofs.StateLemmas.{worker-shown}
use Rattle.rmt_cluster.proofs.SyncLemmas.{next-entry, next-few}
use Rattle.rmt_cluster.proofs.cluster.Cluster.next_entry.Goals as goal

pub returns-clause-next : goal.returns-clause-next
returns-clause-next c =
    let i = c.self.inside in
    let x = shown c.worker-worker.result.now in
    let n = subst (λ (v : Cluster). IsNumbered v c.args.replica x) c.self.view_is (worker-shown i.state c.args.replica c.worker-worker.result.now _ _ _ c.worker-worker.ensures.at) in
    next-entry c.args.self.now c.args.replica c.args.from c.first_pending.result x c.next_pending.result (subst IsWhole c.self.view_is c.self.invariant.whole) n c.requires.done c.first_pending.ensures.below (subst (λ m. IsNext x m c.next_pending.result) c.max.ensures c.next_pending.ensures)

pub returns-clause-few : goal.returns-clause-few
returns-clause-few c =
    let i = c.self.inside in
    let x = shown c.worker-worker.result.now in
    let n = subst (λ (v : Cluster). IsNumbered v c.args.replica x) c.self.view_is (worker-shown i.state c.args.replica c.worker-worker.result.now _ _ _ c.worker-worker.ensures.at) in
    next-few c.args.self.now c.args.replica c.args.from c.next_pending.result
    (next-entry c.args.self.now c.args.replica c.args.from c.first_pending.result x c.next_pending.result (subst IsWhole c.self.view_is c.self.invariant.whole) n c.requires.done c.first_pending.ensures.below (subst (λ m. IsNext x m c.next_pending.result) c.max.ensures c.next_pending.ensures))
    (subst (λ (v : Cluster). length v.table.log ≤ 65536) c.self.view_is c.sound.ensures.few)
