use Rattle.std.proofs.Common.{length, refl, subst, sym, arith}
use Rattle.std.proofs.lemmas.Option.{slice_get_read}
use Rattle.rmt_events.specs.Clusters.{Cluster}
use Rattle.rmt_play.specs.PlayerSteps.{clusters_seen, TurnsTable}
use Rattle.rmt_play.proofs.TurnLemmas.{turning-more, turning-ends}
use Rattle.rmt_play.proofs.clusters.turn_each.Goals as goal

pub clusters-preserved : goal.clusters-preserved
clusters-preserved c =
    let at = c.clusters-test.true in
    let all = c.clusters.invariant.all in
    turning-more clusters_seen c.args.replica c.args.is_up c.args.clusters.now c.clusters.clusters c.clusters.i c.index-clusters-i.result c.turn.new.cluster c.clusters.invariant
    (slice_get_read c.clusters.clusters (length c.clusters.clusters) c.clusters.i c.index-clusters-i.result refl (omega (arith, at, all)) c.index-clusters-i.is)
    (subst (λ (x : Cluster). TurnsTable clusters_seen c.args.replica c.args.is_up x c.turn.new.cluster) (sym c.index-clusters-i.is) c.in_ok-turn.ensures)

pub returns : goal.returns
returns c =
    let past = c.clusters-test.false in
    turning-ends clusters_seen c.args.replica c.args.is_up c.args.clusters.now c.clusters.clusters c.clusters.i (omega (arith, past)) c.clusters.invariant
