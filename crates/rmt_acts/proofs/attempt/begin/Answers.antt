use Rattle.std.proofs.Common.{ap, refl}
use Rattle.rmt_events.specs.Clusters.{without_kinds}
use Rattle.rmt_events.specs.declared.event.Event.TheVariants as ev
use Rattle.rmt_events.proofs.WholeSteps.{whole-step}
use Rattle.rmt_statement_model.proofs.UpLaws.{ups-step}
use Rattle.rmt_statement_model.specs.Inserts.{asked_at}
use Rattle.rmt_acts.proofs.AttemptActs.{allocate-answers, begins-by}
use Rattle.rmt_acts.proofs.EventLists.{at-err, reaches-itself, stops-between, stops-first}
use Rattle.rmt_acts.proofs.attempt.begin.Goals as goal

pub begun_by-requires : goal.begun_by-requires
begun_by-requires c =
    allocate-answers c.args.cluster.now c.step.new.self c.args.replica c.args.need c.in_ok-block.block c.in_ok-reply.reply c.step.ensures.whole c.requires.idle.up
    (c.replicas_are_numbered.ensures c.args.replica c.requires.here) c.in_ok-reply.ensures.ok

pub returns-clause-begins : goal.returns-clause-begins
returns-clause-begins c =
    begins-by c.args.cluster.now c.step.new.self (asked_at c.args.replica c.args.need) c.in_ok-block.block (without_kinds c.args.block) c.in_ok-reply.reply c.begun_by.result (ap without_kinds c.in_ok-block.ensures.ok)
    c.step.ensures.whole c.live_are_counted.ensures c.requires.idle.free c.in_ok-reply.ensures.ok c.begun_by.ensures

pub returns-clause-keeps : goal.returns-clause-keeps
returns-clause-keeps c = record {
  table = c.step.ensures.keeps;
  ups = ups-step c.args.cluster.now c.step.new.self (ev.Allocate c.args.replica c.in_ok-block.block c.args.need) c.in_ok-reply.reply c.step.ensures.whole tt c.in_ok-reply.ensures.ok;
}

pub returns-clause-whole : goal.returns-clause-whole
returns-clause-whole c = whole-step c.args.cluster.now c.step.new.self (ev.Allocate c.args.replica c.in_ok-block.block c.args.need) c.in_ok-reply.reply c.step.ensures.whole c.in_ok-reply.ensures.ok

pub returns-clause-events : goal.returns-clause-events
returns-clause-events c = record { block = c.in_ok-block.block; makes = (c.step.new.self, c.in_ok-reply.reply, c.in_ok-reply.ensures.ok, refl) }

pub returns-in_err-block-clause-err : goal.returns-in_err-block-clause-err
returns-in_err-block-clause-err c = at-err c.from_residual.result _ (stops-between c.args.cluster.now c.args.cluster.now (reaches-itself c.args.cluster.now))

pub returns-in_err-reply-clause-err : goal.returns-in_err-reply-clause-err
returns-in_err-reply-clause-err c = at-err c.from_residual-in_err-reply.result _ (stops-first c.args.cluster.now c.step.new.self (ev.Allocate c.args.replica c.in_ok-block.block c.args.need) c.in_err-reply.ensures.err)
