use Rattle.std.proofs.Common.{refl}
use Rattle.rmt_statement_model.proofs.RestartRows.{killed-shows, killed-ups}
use Rattle.rmt_statement_model.proofs.LockSteps.{none-held}
use Rattle.rmt_events.specs.declared.event.Event.TheVariants as ev
use Rattle.rmt_acts.proofs.background.kill.Goals as goal

pub returns-in_ok-killed : goal.returns-in_ok-killed
returns-in_ok-killed c = record {
  events = (c.step.new.self, c.in_ok-killed.killed, c.in_ok-killed.ensures.ok, refl);
  err = tt;
  shows = killed-shows c.args.cluster.now c.step.new.self c.args.replica c.in_ok-killed.killed c.step.ensures.whole c.in_ok-killed.ensures.ok;
  up = killed-ups c.args.cluster.now c.step.new.self c.args.replica c.in_ok-killed.killed c.in_ok-killed.ensures.ok;
  free = none-held c.args.cluster.now c.step.new.self (ev.Kill c.args.replica) c.in_ok-killed.killed tt c.in_ok-killed.ensures.ok;
  keeps = c.step.ensures.keeps;
}

pub returns-in_ok-killed-2 : goal.returns-in_ok-killed-2
returns-in_ok-killed-2 c = record {
  events = (c.step.new.self, c.in_ok-killed.killed, c.in_ok-killed.ensures.ok, refl);
  err = tt;
  shows = killed-shows c.args.cluster.now c.step.new.self c.args.replica c.in_ok-killed.killed c.step.ensures.whole c.in_ok-killed.ensures.ok;
  up = killed-ups c.args.cluster.now c.step.new.self c.args.replica c.in_ok-killed.killed c.in_ok-killed.ensures.ok;
  free = none-held c.args.cluster.now c.step.new.self (ev.Kill c.args.replica) c.in_ok-killed.killed tt c.in_ok-killed.ensures.ok;
  keeps = c.step.ensures.keeps;
}
