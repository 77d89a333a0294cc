use Rattle.std.proofs.Common.{◌∙◌, ap, subst}
use Rattle.rmt_events.specs.Steps.{Step}
use Rattle.rmt_events.specs.declared.event.Event.TheVariants as ev
use Rattle.rmt_events.specs.declared.reply.Reply.{Reply}
use Rattle.rmt_events.specs.declared.reply.Reply.TheVariants as rp
use Rattle.rmt_statement_model.proofs.WaitRows.{IsMutateReply, mutate-reply}
use Rattle.rmt_statement_model.proofs.LockSteps.{none-held}
use Rattle.rmt_statement_model.proofs.UpLaws.{ups-step}
use Rattle.rmt_acts.proofs.AttemptActs.{idle-as}
use Rattle.rmt_acts.proofs.WaitActs.{becomes-mutated, mutates-none-more, mutate-gets, only-limit}
use Rattle.rmt_acts.proofs.EventLists.{at-err, reaches-step, stops-first, stops-later, stops-syncing}
use Rattle.rmt_acts.proofs.waiting.mutate_part.Goals as goal

pub unreachable-requires : goal.unreachable-requires
unreachable-requires c =
    let a = mutate-reply c.args.cluster.now c.step.new.self c.args.replica c.args.old c.args.upto c.in_ok-reply.reply c.step.ensures.whole c.requires.idle.up c.requires.whole c.requires.mutable c.in_ok-reply.ensures.ok in
    only-limit c.in-Refused.why (subst IsMutateReply c.in-Refused.is a) c.in_default-why.not-LimitReached

pub returns-in_ok-catch_up-in-Entry-clause-mutates : goal.returns-in_ok-catch_up-in-Entry-clause-mutates
returns-in_ok-catch_up-in-Entry-clause-mutates c =
    let k = subst (λ (y : Reply). Step c.args.cluster.now (ev.Mutate c.args.replica c.args.old c.args.upto) y c.step.new.self) c.in-Entry.is c.in_ok-reply.ensures.ok in
    let done = c.in_ok-catch_up-in-Entry.ensures in
    becomes-mutated c.args.cluster.now c.step.new.self c.catch_up.new.cluster c.args.replica c.args.old c.args.upto c.in-Entry.field-0 c.step.ensures.whole k done.table done.syncs.whole done.syncs.shows

pub returns-in-LimitReached-clause-mutates : goal.returns-in-LimitReached-clause-mutates
returns-in-LimitReached-clause-mutates c =
    let k = subst (λ (y : Reply). Step c.args.cluster.now (ev.Mutate c.args.replica c.args.old c.args.upto) y c.step.new.self) (c.in-Refused.is ∙ ap rp.Refused c.in-LimitReached.is) c.in_ok-reply.ensures.ok in
    mutates-none-more c.args.cluster.now c.step.new.self c.args.replica c.args.old c.args.upto c.in-LimitReached.limit c.in-LimitReached.value c.step.ensures.whole k

pub catch_up-requires-clause-gets : goal.catch_up-requires-clause-gets
catch_up-requires-clause-gets c = mutate-gets c.args.cluster.now c.step.new.self c.args.replica c.args.old c.args.upto c.in-Entry.field-0 c.step.ensures.whole c.requires.whole
    (subst (λ (y : Reply). Step c.args.cluster.now (ev.Mutate c.args.replica c.args.old c.args.upto) y c.step.new.self) c.in-Entry.is c.in_ok-reply.ensures.ok)

pub catch_up-requires-clause-idle : goal.catch_up-requires-clause-idle
catch_up-requires-clause-idle c =
    idle-as c.args.cluster.now c.step.new.self c.args.replica (ups-step c.args.cluster.now c.step.new.self (ev.Mutate c.args.replica c.args.old c.args.upto) c.in_ok-reply.reply c.step.ensures.whole tt c.in_ok-reply.ensures.ok) c.requires.idle.up
    (none-held c.args.cluster.now c.step.new.self (ev.Mutate c.args.replica c.args.old c.args.upto) c.in_ok-reply.reply tt c.in_ok-reply.ensures.ok c.requires.idle.free)

pub returns-in_ok-catch_up-in-Entry-clause-keeps : goal.returns-in_ok-catch_up-in-Entry-clause-keeps
returns-in_ok-catch_up-in-Entry-clause-keeps c = record {
  table = record { schema = c.catch_up.ensures.keeps.table.schema ∙ c.step.ensures.keeps.schema; replicas = c.catch_up.ensures.keeps.table.replicas ∙ c.step.ensures.keeps.replicas };
  ups = c.in_ok-catch_up-in-Entry.ensures.keeps.ups ∙ ups-step c.args.cluster.now c.step.new.self (ev.Mutate c.args.replica c.args.old c.args.upto) c.in_ok-reply.reply c.step.ensures.whole tt c.in_ok-reply.ensures.ok;
}

pub returns-in-LimitReached-clause-keeps : goal.returns-in-LimitReached-clause-keeps
returns-in-LimitReached-clause-keeps c = record {
  table = c.step.ensures.keeps;
  ups = ups-step c.args.cluster.now c.step.new.self (ev.Mutate c.args.replica c.args.old c.args.upto) c.in_ok-reply.reply c.step.ensures.whole tt c.in_ok-reply.ensures.ok;
}

pub returns-in-LimitReached-clause-idle : goal.returns-in-LimitReached-clause-idle
returns-in-LimitReached-clause-idle c =
    idle-as c.args.cluster.now c.step.new.self c.args.replica (ups-step c.args.cluster.now c.step.new.self (ev.Mutate c.args.replica c.args.old c.args.upto) c.in_ok-reply.reply c.step.ensures.whole tt c.in_ok-reply.ensures.ok) c.requires.idle.up
    (none-held c.args.cluster.now c.step.new.self (ev.Mutate c.args.replica c.args.old c.args.upto) c.in_ok-reply.reply tt c.in_ok-reply.ensures.ok c.requires.idle.free)

pub returns-in_err-reply-clause-err : goal.returns-in_err-reply-clause-err
returns-in_err-reply-clause-err c = at-err c.from_residual.result _ (stops-first c.args.cluster.now c.step.new.self (ev.Mutate c.args.replica c.args.old c.args.upto) c.in_err-reply.ensures.err)

pub returns-in_err-catch_up-in-Entry-clause-err : goal.returns-in_err-catch_up-in-Entry-clause-err
returns-in_err-catch_up-in-Entry-clause-err c =
    at-err c.from_residual-in_err-catch_up-in-Entry.result _
    (stops-later c.args.cluster.now c.step.new.self c.catch_up.new.cluster (reaches-step c.args.cluster.now c.step.new.self (ev.Mutate c.args.replica c.args.old c.args.upto) c.in_ok-reply.reply c.in_ok-reply.ensures.ok)
    (stops-syncing c.step.new.self c.catch_up.new.cluster c.args.replica c.in_err-catch_up-in-Entry.ensures.err))
