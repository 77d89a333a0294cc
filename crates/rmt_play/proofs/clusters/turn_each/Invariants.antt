use Rattle.rmt_play.specs.PlayerSteps.{clusters_seen}
use Rattle.rmt_play.proofs.TurnLemmas.{IsTurning}
use Rattle.rmt_play.proofs.clusters.turn_each.Given as goal

-- the clusters so far are turned
abbrev pub invariant-clusters : goal.invariant-clusters
invariant-clusters l = IsTurning clusters_seen l.replica l.is_up l.fn.clusters l.i l.clusters
