use Rattle.rmt_events.specs.declared.event.Event.TheVariants as ev
use Rattle.rmt_statement_model.proofs.SwitchRows.{switched-shows}
use Rattle.rmt_statement_model.proofs.LockSteps.{none-held}
use Rattle.rmt_statement_model.proofs.UpLaws.{ups-step}
use Rattle.rmt_acts.proofs.AttemptActs.{idle-as}
use Rattle.rmt_acts.proofs.switching.switch_fetches.Goals as goal

pub returns-in-Ok-clause-shows : goal.returns-in-Ok-clause-shows
returns-in-Ok-clause-shows c = switched-shows c.args.cluster.now c.step.new.self c.args.replica c.args.allowed c.in-Ok.field-0 c.step.ensures.whole c.in-Ok.ensures.ok

pub returns-in-Ok-clause-idle : goal.returns-in-Ok-clause-idle
returns-in-Ok-clause-idle c =
    idle-as c.args.cluster.now c.step.new.self c.args.replica
    (ups-step c.args.cluster.now c.step.new.self (ev.Fetches c.args.replica c.args.allowed) c.in-Ok.field-0 c.step.ensures.whole tt c.in-Ok.ensures.ok) c.requires.idle.up
    (none-held c.args.cluster.now c.step.new.self (ev.Fetches c.args.replica c.args.allowed) c.in-Ok.field-0 tt c.in-Ok.ensures.ok c.requires.idle.free)

pub returns-in-Ok-clause-keeps : goal.returns-in-Ok-clause-keeps
returns-in-Ok-clause-keeps c = record {
  table = c.step.ensures.keeps;
  ups = ups-step c.args.cluster.now c.step.new.self (ev.Fetches c.args.replica c.args.allowed) c.in-Ok.field-0 c.step.ensures.whole tt c.in-Ok.ensures.ok;
}
