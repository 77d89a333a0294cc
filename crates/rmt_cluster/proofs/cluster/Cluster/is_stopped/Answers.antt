use Rattle.std.proofs.Common.{sym, subst, ◌∙◌}
use Rattle.rmt_replica.specs.SeenReplica.{shown}
use Rattle.rmt_events.specs.Clusters.{Cluster}
use Rattle.rmt_events.specs.ClusterChanges.{IsNumbered}
use Rattle.rmt_events.specs.Whole.{IsWhole}
use Rattle.rmt_state.proofs.StateLemmas.{worker-shown}
use Rattle.rmt_cluster.proofs.NoteLemmas.{down-may, allowed-may, told-stopped, told-allowed}
use Rattle.rmt_cluster.proofs.cluster.Cluster.is_stopped.Goals as goal

pub returns-then-is_up-clause-stopped : goal.returns-then-is_up-clause-stopped
returns-then-is_up-clause-stopped c = λ e.
    let i = c.self.inside in
    let x = shown c.worker-worker.result.now in
    let n = subst (λ (v : Cluster). IsNumbered v c.args.replica x) c.self.view_is (worker-shown i.state c.args.replica c.worker-worker.result.now _ _ _ c.worker-worker.ensures.at) in
    record { replica = x; is = record { at = n; up = sym c.is_up.ensures ∙ c.if-is_up.true }; stopped = told-stopped c.fetches.result c.worker-worker.result.now.fetches c.fetches.ensures e }

pub returns-then-is_up-clause-allowed : goal.returns-then-is_up-clause-allowed
returns-then-is_up-clause-allowed c = λ e.
    let i = c.self.inside in
    let x = shown c.worker-worker.result.now in
    let n = subst (λ (v : Cluster). IsNumbered v c.args.replica x) c.self.view_is (worker-shown i.state c.args.replica c.worker-worker.result.now _ _ _ c.worker-worker.ensures.at) in
    allowed-may c.args.self.now c.args.replica x (subst IsWhole c.self.view_is c.self.invariant.whole) n (told-allowed c.fetches.result c.worker-worker.result.now.fetches c.fetches.ensures e)

pub returns-else-is_up-clause-allowed : goal.returns-else-is_up-clause-allowed
returns-else-is_up-clause-allowed c = λ e.
    let i = c.self.inside in
    let x = shown c.worker-worker.result.now in
    let n = subst (λ (v : Cluster). IsNumbered v c.args.replica x) c.self.view_is (worker-shown i.state c.args.replica c.worker-worker.result.now _ _ _ c.worker-worker.ensures.at) in
    down-may c.args.self.now c.args.replica x (subst IsWhole c.self.view_is c.self.invariant.whole) n (sym c.is_up.ensures ∙ c.if-is_up.false)
