use Rattle.std.proofs.Common.{◌≤◌, length, subst}
use Rattle.rmt_table_model.specs.Held.{Held}
use Rattle.rmt_acts.proofs.GatherActs.{live-counted}
use Rattle.rmt_acts.proofs.gathering.live_are_counted.Goals as goal

pub returns : goal.returns
returns c =
    live-counted c.args.cluster.now c.state-state.result.now c.drained_replicas_agree.ensures.whole c.state-state.ensures.table c.state-state.ensures.replicas c.sound.ensures.state
    (subst (λ (h : Held). length h.sessions ≤ 8) c.tree.ensures c.no_limit_is_passed.ensures.replicas)
