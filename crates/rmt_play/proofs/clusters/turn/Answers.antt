use Rattle.std.proofs.Common.{Bool, subst, sym}
use Rattle.rmt_play.specs.PlayerSteps.{clusters_seen, TurnsTable}
use Rattle.rmt_play.proofs.clusters.turn.Goals as goal

pub returns-in_ok-restart : goal.returns-in_ok-restart
returns-in_ok-restart c =
    subst (λ (b : Bool). TurnsTable clusters_seen c.args.replica b c.args.cluster.now c.restart.new.cluster) (sym c.if-is_up.true)
    (record { shows = c.in_ok-restart.ensures.shows; turns = record { ups = c.in_ok-restart.ensures.up; free = λ h. c.in_ok-restart.ensures.free h }; all = c.in_ok-restart.ensures.keeps.replicas; events = λ n. c.in_ok-restart.ensures.events })

pub returns-in_ok-kill : goal.returns-in_ok-kill
returns-in_ok-kill c =
    subst (λ (b : Bool). TurnsTable clusters_seen c.args.replica b c.args.cluster.now c.kill.new.cluster) (sym c.if-is_up.false)
    (record { shows = c.in_ok-kill.ensures.shows; turns = record { ups = c.in_ok-kill.ensures.up; free = λ h. c.in_ok-kill.ensures.free h }; all = c.in_ok-kill.ensures.keeps.replicas; events = λ n. c.in_ok-kill.ensures.events })
