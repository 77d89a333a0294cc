use Rattle.std.proofs.Common.{◌∙◌, ap, subst}
use Rattle.rmt_events.specs.Steps.{Step}
use Rattle.rmt_events.specs.declared.event.Event.TheVariants as ev
use Rattle.rmt_events.specs.declared.reply.Reply.{Reply}
use Rattle.rmt_events.specs.declared.reply.Reply.TheVariants as rp
use Rattle.rmt_statement_model.proofs.DropRows.{drop-refused}
use Rattle.rmt_acts.proofs.ChangeActs.{has-drop, drops, drops-nothing}
use Rattle.rmt_statement_model.proofs.UpLaws.{ups-step}
use Rattle.rmt_acts.proofs.EventLists.{at-err, reaches-step, stops-first, stops-later}
use Rattle.rmt_acts.proofs.drop.drop_partition.Goals as goal

pub do_drop-requires-clause-there : goal.do_drop-requires-clause-there
do_drop-requires-clause-there c =
    let s = c.args.cluster.now in
    let a = c.step.new.self in
    let k = subst (λ (y : Reply). Step s (ev.DropPartition c.args.partition) y a) c.in-Entry.is c.in_ok-reply.ensures.ok in
    has-drop s a c.args.partition c.in-Entry.entry k

pub returns-in_ok-below-in-Entry-clause-drops : goal.returns-in_ok-below-in-Entry-clause-drops
returns-in_ok-below-in-Entry-clause-drops c =
    let s = c.args.cluster.now in
    let a = c.step.new.self in
    let k = subst (λ (y : Reply). Step s (ev.DropPartition c.args.partition) y a) c.in-Entry.is c.in_ok-reply.ensures.ok in
    drops s a c.do_drop.new.cluster c.args.replica c.args.partition c.in-Entry.entry c.in_ok-below-in-Entry.below c.step.ensures.whole k c.in_ok-below-in-Entry.ensures.does

pub returns-in-Done-clause-drops : goal.returns-in-Done-clause-drops
returns-in-Done-clause-drops c =
    let s = c.args.cluster.now in
    let u = c.step.new.self in
    let k = subst (λ (y : Reply). Step s (ev.DropPartition c.args.partition) y u) c.in-Done.is c.in_ok-reply.ensures.ok in
    drops-nothing s u c.args.replica c.args.partition c.step.ensures.whole k

pub returns-in-LimitReached-clause-drops : goal.returns-in-LimitReached-clause-drops
returns-in-LimitReached-clause-drops c =
    let s = c.args.cluster.now in
    let u = c.step.new.self in
    let r = c.in-LimitReached in
    let k = subst (λ (y : Reply). Step s (ev.DropPartition c.args.partition) y u) (c.in-Refused.is ∙ ap rp.Refused r.is) c.in_ok-reply.ensures.ok in
    drop-refused s u c.args.partition r.limit r.value c.step.ensures.whole k

pub returns-in_ok-below-in-Entry-clause-keeps : goal.returns-in_ok-below-in-Entry-clause-keeps
returns-in_ok-below-in-Entry-clause-keeps c = record {
  table = record { schema = c.do_drop.ensures.keeps.table.schema ∙ c.step.ensures.keeps.schema; replicas = c.do_drop.ensures.keeps.table.replicas ∙ c.step.ensures.keeps.replicas };
  ups = c.in_ok-below-in-Entry.ensures.keeps.ups ∙ ups-step c.args.cluster.now c.step.new.self (ev.DropPartition c.args.partition) c.in_ok-reply.reply c.step.ensures.whole tt c.in_ok-reply.ensures.ok;
}

pub returns-in_err-reply-clause-err : goal.returns-in_err-reply-clause-err
returns-in_err-reply-clause-err c = at-err c.from_residual.result _ (stops-first c.args.cluster.now c.step.new.self (ev.DropPartition c.args.partition) c.in_err-reply.ensures.err)

pub returns-in_err-below-in-Entry-clause-err : goal.returns-in_err-below-in-Entry-clause-err
returns-in_err-below-in-Entry-clause-err c =
    at-err c.from_residual-in_err-below-in-Entry.result _
    (stops-later c.args.cluster.now c.step.new.self c.do_drop.new.cluster (reaches-step c.args.cluster.now c.step.new.self (ev.DropPartition c.args.partition) c.in_ok-reply.reply c.in_ok-reply.ensures.ok) c.in_err-below-in-Entry.ensures.err)
