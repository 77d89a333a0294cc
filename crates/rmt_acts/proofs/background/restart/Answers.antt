use Rattle.std.proofs.Common.{refl}
use Rattle.rmt_statement_model.proofs.RestartRows.{restarted-shows, restarted-ups}
use Rattle.rmt_statement_model.proofs.LockSteps.{none-held}
use Rattle.rmt_events.specs.declared.event.Event.TheVariants as ev
use Rattle.rmt_acts.proofs.background.restart.Goals as goal

pub returns-in_ok-restarted : goal.returns-in_ok-restarted
returns-in_ok-restarted c = record {
  events = (c.step.new.self, c.in_ok-restarted.restarted, c.in_ok-restarted.ensures.ok, refl);
  err = tt;
  shows = restarted-shows c.args.cluster.now c.step.new.self c.args.replica c.in_ok-restarted.restarted c.step.ensures.whole c.in_ok-restarted.ensures.ok;
  up = restarted-ups c.args.cluster.now c.step.new.self c.args.replica c.in_ok-restarted.restarted c.in_ok-restarted.ensures.ok;
  free = none-held c.args.cluster.now c.step.new.self (ev.Restart c.args.replica) c.in_ok-restarted.restarted tt c.in_ok-restarted.ensures.ok;
  keeps = c.step.ensures.keeps;
}

pub returns-in_ok-restarted-2 : goal.returns-in_ok-restarted-2
returns-in_ok-restarted-2 c = record {
  events = (c.step.new.self, c.in_ok-restarted.restarted, c.in_ok-restarted.ensures.ok, refl);
  err = tt;
  shows = restarted-shows c.args.cluster.now c.step.new.self c.args.replica c.in_ok-restarted.restarted c.step.ensures.whole c.in_ok-restarted.ensures.ok;
  up = restarted-ups c.args.cluster.now c.step.new.self c.args.replica c.in_ok-restarted.restarted c.in_ok-restarted.ensures.ok;
  free = none-held c.args.cluster.now c.step.new.self (ev.Restart c.args.replica) c.in_ok-restarted.restarted tt c.in_ok-restarted.ensures.ok;
  keeps = c.step.ensures.keeps;
}
