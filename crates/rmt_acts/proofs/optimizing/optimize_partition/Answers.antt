use Rattle.std.proofs.Common.{◌≡◌, length, refl, sym, ap, subst, ◌∙◌}
use Rattle.rmt_events.specs.Views.{Table}
use Rattle.rmt_events.specs.declared.reply.Reply.{Reply}
use Rattle.rmt_acts.proofs.OptimizeActs.{whole-log, names-told, only-one, stays-alone, MergesAll, merges-all, answers, no-other, merge-idle, merge-ups, merge-gets, cause-told, refused-merge, refused-whole, has-merge, becomes-one}
use Rattle.rmt_events.specs.declared.event.Event.TheVariants as ev
use Rattle.rmt_statement_model.proofs.SyncLaws.{synced-shows}
use Rattle.rmt_acts.proofs.EventLists.{at-err, reaches-itself, reaches-step, stops-between, stops-first, stops-later, stops-syncing}
use Rattle.rmt_acts.proofs.optimizing.optimize_partition.Goals as goal
use Rattle.rmt_acts.proofs.optimizing.optimize_partition.Goals.{In_ok-reply}

pub returns-then-len-eq1-clause-optimizes : goal.returns-then-len-eq1-clause-optimizes
returns-then-len-eq1-clause-optimizes c =
    let s = c.args.cluster.now in
    let one = only-one c.as_slice.result.now c.index-as_slice-0.result (ap length c.as_slice.ensures ∙ (sym c.len.ensures ∙ c.if-len-eq1.true)) c.index-as_slice-0.is in
    let live = names-told s c.args.replica c.args.partition c.copy.result.now.log c.in_ok-sources.sources c.in_ok-sources.ensures c.requires.whole c.copy.ensures.log in
    stays-alone s s c.args.replica c.args.partition c.index-as_slice-0.result (sym live ∙ (sym c.as_slice.ensures ∙ one)) (λ t h. synced-shows s c.args.replica t c.drained_replicas_agree.ensures.whole c.requires.whole h)

-- the event merges all live names, whatever its reply
merges : (c : In_ok-reply) (reply : Reply) → c.in_ok-reply.reply ≡ reply → MergesAll c.args.cluster.now c.args.replica c.args.partition c.in_ok-sources.sources reply c.step.new.self
merges c reply is =
    let n = c.if-len-eq1.false in
    subst (λ (y : Reply). MergesAll c.args.cluster.now c.args.replica c.args.partition c.in_ok-sources.sources y c.step.new.self) is
    (merges-all c.args.cluster.now c.step.new.self c.args.replica c.args.partition c.requires.some.0 c.copy.result.now.log c.in_ok-sources.sources c.in_ok-reply.reply c.step.ensures.whole c.requires.idle c.requires.whole
    c.requires.some.1 c.in_ok-sources.ensures c.copy.ensures.log (λ e. n (c.len.ensures ∙ e)) c.in_ok-reply.ensures.ok)

pub catch_up-requires-clause-idle : goal.catch_up-requires-clause-idle
catch_up-requires-clause-idle c = merge-idle _ _ _ _ _ _ (merges (goal.at.catch_up-requires-clause-idle c).In_ok-reply _ c.in-Entry.is)

pub catch_up-requires-clause-gets : goal.catch_up-requires-clause-gets
catch_up-requires-clause-gets c = merge-gets _ _ _ _ _ _ (merges (goal.at.catch_up-requires-clause-gets c).In_ok-reply _ c.in-Entry.is)

pub returns-in_ok-catch_up-in-Entry-clause-keeps : goal.returns-in_ok-catch_up-in-Entry-clause-keeps
returns-in_ok-catch_up-in-Entry-clause-keeps c = record {
  table = record { schema = c.catch_up.ensures.keeps.table.schema ∙ c.step.ensures.keeps.schema; replicas = c.catch_up.ensures.keeps.table.replicas ∙ c.step.ensures.keeps.replicas };
  ups = c.in_ok-catch_up-in-Entry.ensures.keeps.ups ∙ merge-ups _ _ _ _ _ _ (merges (goal.at.returns-in_ok-catch_up-in-Entry-clause-keeps c).In_ok-reply _ c.in-Entry.is);
}

pub returns-in-Refused-clause-keeps : goal.returns-in-Refused-clause-keeps
returns-in-Refused-clause-keeps c = record {
  table = c.step.ensures.keeps;
  ups = merge-ups _ _ _ _ _ _ (merges (goal.at.returns-in-Refused-clause-keeps c).In_ok-reply _ c.in-Refused.is);
}

pub merged_at-name-requires : goal.merged_at-name-requires
merged_at-name-requires c =
    let done = c.in_ok-catch_up-in-Entry.ensures in
    let log = whole-log c.catch_up.new.cluster c.args.replica c.copy-in-Entry.result.now.log done.syncs.whole c.copy-in-Entry.ensures.log ∙ ap (λ (t : Table). t.log) done.table in
    record { merge = has-merge _ _ _ _ _ _ _ (merges (goal.at.merged_at-name-requires c).In_ok-reply _ c.in-Entry.is) log }

pub returns-in_ok-catch_up-in-Entry-clause-optimizes : goal.returns-in_ok-catch_up-in-Entry-clause-optimizes
returns-in_ok-catch_up-in-Entry-clause-optimizes c =
    let m = merges (goal.at.returns-in_ok-catch_up-in-Entry-clause-optimizes c).In_ok-reply _ c.in-Entry.is in
    let done = c.in_ok-catch_up-in-Entry.ensures in
    let log = whole-log c.catch_up.new.cluster c.args.replica c.copy-in-Entry.result.now.log done.syncs.whole c.copy-in-Entry.ensures.log ∙ ap (λ (t : Table). t.log) done.table in
    becomes-one c.args.cluster.now c.step.new.self c.catch_up.new.cluster c.args.replica c.args.partition c.in_ok-sources.sources c.in-Entry.place c.copy-in-Entry.result.now.log
    c.merged_at-name.result m log c.merged_at-name.ensures.name done.syncs.shows

pub refusal_of-requires : goal.refusal_of-requires
refusal_of-requires c = record { says = cause-told c.in-Refused.why (answers _ _ _ _ _ _ (merges (goal.at.refusal_of-requires c).In_ok-reply _ c.in-Refused.is)) }

pub returns-in-Refused-clause-optimizes : goal.returns-in-Refused-clause-optimizes
returns-in-Refused-clause-optimizes c =
    let m = merges (goal.at.returns-in-Refused-clause-optimizes c).In_ok-reply _ c.in-Refused.is in
    refused-merge c.args.cluster.now c.step.new.self c.args.replica c.args.partition c.in_ok-sources.sources c.in-Refused.why c.refusal_of.result c.refusal_of.ensures m

pub returns-in-Refused-clause-whole : goal.returns-in-Refused-clause-whole
returns-in-Refused-clause-whole c = refused-whole _ _ _ _ _ _ (merges (goal.at.returns-in-Refused-clause-whole c).In_ok-reply _ c.in-Refused.is)

pub returns-in-Refused-clause-idle : goal.returns-in-Refused-clause-idle
returns-in-Refused-clause-idle c = merge-idle _ _ _ _ _ _ (merges (goal.at.returns-in-Refused-clause-idle c).In_ok-reply _ c.in-Refused.is)

pub unreachable-requires : goal.unreachable-requires
unreachable-requires c = no-other c.in_ok-reply.reply (answers _ _ _ _ _ _ (merges (goal.at.unreachable-requires c).In_ok-reply _ refl)) c.in_default.not-Entry c.in_default.not-Refused

pub returns-in_err-sources-clause-err : goal.returns-in_err-sources-clause-err
returns-in_err-sources-clause-err c = at-err c.from_residual.result _ (stops-between c.args.cluster.now c.args.cluster.now (reaches-itself c.args.cluster.now))

pub returns-in_err-reply-clause-err : goal.returns-in_err-reply-clause-err
returns-in_err-reply-clause-err c = at-err c.from_residual-in_err-reply.result _ (stops-first c.args.cluster.now c.step.new.self (ev.Merge c.args.replica c.in_ok-sources.sources) c.in_err-reply.ensures.err)

pub returns-in_err-catch_up-in-Entry-clause-err : goal.returns-in_err-catch_up-in-Entry-clause-err
returns-in_err-catch_up-in-Entry-clause-err c =
    at-err c.from_residual-in_err-catch_up-in-Entry.result _
    (stops-later c.args.cluster.now c.step.new.self c.catch_up.new.cluster (reaches-step c.args.cluster.now c.step.new.self (ev.Merge c.args.replica c.in_ok-sources.sources) c.in_ok-reply.reply c.in_ok-reply.ensures.ok)
    (stops-syncing c.step.new.self c.catch_up.new.cluster c.args.replica c.in_err-catch_up-in-Entry.ensures.err))
