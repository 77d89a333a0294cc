use Rattle.std.proofs.Common.{◌∙◌}
use Rattle.rmt_statement_model.proofs.RestartRows.{restart-shows, restart-free, restart-ups}
use Rattle.rmt_acts.proofs.AttemptActs.{idle-as}
use Rattle.rmt_events.specs.declared.event.Event.TheVariants as ev
use Rattle.rmt_acts.proofs.EventLists.{at-err, reaches-step, stops-first, stops-there}
use Rattle.rmt_acts.proofs.background.restart_replica.Goals as goal

pub returns-clause-restarts : goal.returns-clause-restarts
returns-clause-restarts c =
    restart-shows c.args.cluster.now c.step.new.self c.step-2.new.self c.args.replica c.in_ok-killed.killed c.in_ok-_restarted._restarted c.step.ensures.whole c.in_ok-killed.ensures.ok c.in_ok-_restarted.ensures.ok

pub returns-clause-keeps : goal.returns-clause-keeps
returns-clause-keeps c = record {
  table = record { schema = c.step-2.ensures.keeps.schema ∙ c.step.ensures.keeps.schema; replicas = c.step-2.ensures.keeps.replicas ∙ c.step.ensures.keeps.replicas };
  ups = restart-ups c.args.cluster.now c.step.new.self c.step-2.new.self c.args.replica c.in_ok-killed.killed c.in_ok-_restarted._restarted c.in_ok-killed.ensures.ok c.in_ok-_restarted.ensures.ok c.requires.idle.up;
}

pub returns-clause-idle : goal.returns-clause-idle
returns-clause-idle c =
    idle-as c.args.cluster.now c.step-2.new.self c.args.replica
    (restart-ups c.args.cluster.now c.step.new.self c.step-2.new.self c.args.replica c.in_ok-killed.killed c.in_ok-_restarted._restarted c.in_ok-killed.ensures.ok c.in_ok-_restarted.ensures.ok c.requires.idle.up) c.requires.idle.up
    (restart-free c.args.cluster.now c.step.new.self c.step-2.new.self c.args.replica c.in_ok-killed.killed c.in_ok-_restarted._restarted c.in_ok-killed.ensures.ok c.in_ok-_restarted.ensures.ok c.requires.idle.free)

pub returns-in_err-killed-clause-err : goal.returns-in_err-killed-clause-err
returns-in_err-killed-clause-err c = at-err c.from_residual.result _ (stops-first c.args.cluster.now c.step.new.self (ev.Kill c.args.replica) c.in_err-killed.ensures.err)

pub returns-in_err-_restarted-clause-err : goal.returns-in_err-_restarted-clause-err
returns-in_err-_restarted-clause-err c =
    at-err c.from_residual-in_err-_restarted.result _
    (stops-there c.args.cluster.now c.step.new.self c.step-2.new.self (ev.Restart c.args.replica) (reaches-step c.args.cluster.now c.step.new.self (ev.Kill c.args.replica) c.in_ok-killed.killed c.in_ok-killed.ensures.ok) c.in_err-_restarted.ensures.err)
