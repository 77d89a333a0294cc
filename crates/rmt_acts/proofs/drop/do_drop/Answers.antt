use Rattle.std.proofs.Common.{◌∙◌, List, subst, sym}
use Rattle.rmt_entries.specs.declared.entry.Entry.{Entry}
use Rattle.rmt_events.specs.Steps.{Step}
use Rattle.rmt_events.specs.declared.event.Event.TheVariants as ev
use Rattle.rmt_events.specs.declared.reply.Reply.{Reply}
use Rattle.rmt_acts.specs.Changing.{HasDropAt, IsNumberAt}
use Rattle.rmt_acts.proofs.ChangeActs.{copy-log, unapplied, drop-answers, does-drop}
use Rattle.rmt_acts.proofs.AttemptActs.{get-idle, get-ups}
use Rattle.rmt_acts.proofs.EventLists.{at-err, reaches-step, stops-first, stops-there}
use Rattle.rmt_acts.proofs.drop.do_drop.Goals as goal
use Rattle.rmt_acts.proofs.drop.do_drop.Goals.{in_default-via-in-Refused+in_default, in_default-via-in_default}

pub number_at-number-requires : goal.number_at-number-requires
number_at-number-requires c =
    let s = c.args.cluster.now in
    let h = c.replicas_are_numbered.ensures c.args.replica c.requires.here in
    let e = copy-log s c.step.new.self c.args.replica c.in_ok-_pulled._pulled c.copy.result.now.log c.step.ensures.whole c.requires.idle.up h c.in_ok-_pulled.ensures.ok c.copy.ensures.log in
    subst (λ (log : List Entry). HasDropAt log c.args.entry) (sym e) c.requires.there

pub unreachable-requires-in_default : goal.unreachable-requires-in_default
unreachable-requires-in_default c =
    let s = c.args.cluster.now in
    let h = c.replicas_are_numbered.ensures c.args.replica c.requires.here in
    let a = drop-answers s c.step.new.self c.step-2.new.self c.args.replica c.args.entry c.in_ok-_pulled._pulled c.in_ok-reply.reply c.step.ensures.whole c.requires.idle.up h c.requires.there c.in_ok-_pulled.ensures.ok c.in_ok-reply.ensures.ok in
    elim c.in_default.branch [
      | in_default-via-in-Refused+in_default w ↦ unapplied c.in_ok-reply.reply a w.in_default.not-Applied
      | in_default-via-in_default w ↦ unapplied c.in_ok-reply.reply a w.in_default.not-Applied
    ]

pub returns-clause-does : goal.returns-clause-does
returns-clause-does c =
    let s = c.args.cluster.now in
    let m = c.step.new.self in
    let u = c.step-2.new.self in
    let h = c.replicas_are_numbered.ensures c.args.replica c.requires.here in
    let e = copy-log s m c.args.replica c.in_ok-_pulled._pulled c.copy.result.now.log c.step.ensures.whole c.requires.idle.up h c.in_ok-_pulled.ensures.ok c.copy.ensures.log in
    let k = subst (λ (y : Reply). Step m (ev.Apply c.args.replica c.args.entry) y u) c.in-Applied.is c.in_ok-reply.ensures.ok in
    does-drop s m u c.args.replica c.args.entry c.number_at-number.result c.in_ok-_pulled._pulled c.in-Applied.field-0 c.step.ensures.whole c.in_ok-_pulled.ensures.ok k
    (subst (λ (log : List Entry). IsNumberAt log c.args.entry c.number_at-number.result) e c.number_at-number.ensures)

pub returns-clause-idle : goal.returns-clause-idle
returns-clause-idle c =
    get-idle c.args.cluster.now c.step.new.self c.step-2.new.self c.args.replica c.args.entry c.in_ok-_pulled._pulled c.in_ok-reply.reply c.step.ensures.whole c.requires.idle c.in_ok-_pulled.ensures.ok c.in_ok-reply.ensures.ok

pub returns-clause-keeps : goal.returns-clause-keeps
returns-clause-keeps c = record {
  table = record { schema = c.step-2.ensures.keeps.schema ∙ c.step.ensures.keeps.schema; replicas = c.step-2.ensures.keeps.replicas ∙ c.step.ensures.keeps.replicas };
  ups = get-ups c.args.cluster.now c.step.new.self c.step-2.new.self c.args.replica c.args.entry c.in_ok-_pulled._pulled c.in_ok-reply.reply c.step.ensures.whole c.in_ok-_pulled.ensures.ok c.in_ok-reply.ensures.ok;
}

pub returns-in_err-_pulled-clause-err : goal.returns-in_err-_pulled-clause-err
returns-in_err-_pulled-clause-err c = at-err c.from_residual.result _ (stops-first c.args.cluster.now c.step.new.self (ev.Pull c.args.replica) c.in_err-_pulled.ensures.err)

pub returns-in_err-reply-clause-err : goal.returns-in_err-reply-clause-err
returns-in_err-reply-clause-err c =
    at-err c.from_residual-in_err-reply.result _
    (stops-there c.args.cluster.now c.step.new.self c.step-2.new.self (ev.Apply c.args.replica c.args.entry) (reaches-step c.args.cluster.now c.step.new.self (ev.Pull c.args.replica) c.in_ok-_pulled._pulled c.in_ok-_pulled.ensures.ok) c.in_err-reply.ensures.err)
