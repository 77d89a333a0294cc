use Rattle.std.proofs.Common.{refl, subst, ◌∙◌}
use Rattle.rmt_events.specs.declared.reply.Reply.{Reply}
use Rattle.rmt_statement_model.specs.Inserts.{asked_at}
use Rattle.rmt_statement_model.proofs.AttemptSteps.{IsApplied}
use Rattle.rmt_acts.proofs.AttemptActs.{gets-by, get-answers, get-idle, get-ups}
use Rattle.rmt_events.specs.declared.event.Event.TheVariants as ev
use Rattle.rmt_acts.proofs.EventLists.{at-err, reaches-step, stops-first, stops-there}
use Rattle.rmt_acts.proofs.attempt.do_get.Goals as goal

pub unreachable-requires : goal.unreachable-requires
unreachable-requires c = subst (λ (y : Reply). IsApplied y) c.in-Refused-Down.is (get-answers c.args.cluster.now c.step.new.self c.step-2.new.self (asked_at c.args.replica c.requires.there.0) c.args.entry c.in_ok-_pulled._pulled c.in_ok-reply.reply c.step.ensures.whole c.requires.idle.up c.requires.there.1
    c.in_ok-_pulled.ensures.ok c.in_ok-reply.ensures.ok)

pub returns-in_ok-reply : goal.returns-in_ok-reply
returns-in_ok-reply c = record {
  does = gets-by c.args.cluster.now c.step.new.self c.step-2.new.self c.args.replica c.args.entry c.in_ok-_pulled._pulled c.in_ok-reply.reply (get-answers c.args.cluster.now c.step.new.self c.step-2.new.self (asked_at c.args.replica c.requires.there.0) c.args.entry c.in_ok-_pulled._pulled c.in_ok-reply.reply c.step.ensures.whole c.requires.idle.up c.requires.there.1
      c.in_ok-_pulled.ensures.ok c.in_ok-reply.ensures.ok) c.step.ensures.whole
      c.in_ok-_pulled.ensures.ok c.in_ok-reply.ensures.ok;
  idle = get-idle c.args.cluster.now c.step.new.self c.step-2.new.self c.args.replica c.args.entry c.in_ok-_pulled._pulled c.in_ok-reply.reply c.step.ensures.whole c.requires.idle
      c.in_ok-_pulled.ensures.ok c.in_ok-reply.ensures.ok;
  events = (c.step.new.self, c.in_ok-_pulled._pulled, c.in_ok-_pulled.ensures.ok, (c.step-2.new.self, c.in_ok-reply.reply, c.in_ok-reply.ensures.ok, refl));
  err = tt;
  keeps = record {
    table = record { schema = c.step-2.ensures.keeps.schema ∙ c.step.ensures.keeps.schema; replicas = c.step-2.ensures.keeps.replicas ∙ c.step.ensures.keeps.replicas };
    ups = get-ups c.args.cluster.now c.step.new.self c.step-2.new.self c.args.replica c.args.entry c.in_ok-_pulled._pulled c.in_ok-reply.reply c.step.ensures.whole
        c.in_ok-_pulled.ensures.ok c.in_ok-reply.ensures.ok;
  };
}

pub returns-in_ok-reply-2 : goal.returns-in_ok-reply-2
returns-in_ok-reply-2 c = record {
  does = gets-by c.args.cluster.now c.step.new.self c.step-2.new.self c.args.replica c.args.entry c.in_ok-_pulled._pulled c.in_ok-reply.reply (get-answers c.args.cluster.now c.step.new.self c.step-2.new.self (asked_at c.args.replica c.requires.there.0) c.args.entry c.in_ok-_pulled._pulled c.in_ok-reply.reply c.step.ensures.whole c.requires.idle.up c.requires.there.1
      c.in_ok-_pulled.ensures.ok c.in_ok-reply.ensures.ok) c.step.ensures.whole
      c.in_ok-_pulled.ensures.ok c.in_ok-reply.ensures.ok;
  idle = get-idle c.args.cluster.now c.step.new.self c.step-2.new.self c.args.replica c.args.entry c.in_ok-_pulled._pulled c.in_ok-reply.reply c.step.ensures.whole c.requires.idle
      c.in_ok-_pulled.ensures.ok c.in_ok-reply.ensures.ok;
  events = (c.step.new.self, c.in_ok-_pulled._pulled, c.in_ok-_pulled.ensures.ok, (c.step-2.new.self, c.in_ok-reply.reply, c.in_ok-reply.ensures.ok, refl));
  err = tt;
  keeps = record {
    table = record { schema = c.step-2.ensures.keeps.schema ∙ c.step.ensures.keeps.schema; replicas = c.step-2.ensures.keeps.replicas ∙ c.step.ensures.keeps.replicas };
    ups = get-ups c.args.cluster.now c.step.new.self c.step-2.new.self c.args.replica c.args.entry c.in_ok-_pulled._pulled c.in_ok-reply.reply c.step.ensures.whole
        c.in_ok-_pulled.ensures.ok c.in_ok-reply.ensures.ok;
  };
}

pub returns-in_err-_pulled-clause-err : goal.returns-in_err-_pulled-clause-err
returns-in_err-_pulled-clause-err c = at-err c.from_residual.result _ (stops-first c.args.cluster.now c.step.new.self (ev.Pull c.args.replica) c.in_err-_pulled.ensures.err)

pub returns-in_err-reply-clause-err : goal.returns-in_err-reply-clause-err
returns-in_err-reply-clause-err c =
    at-err c.from_residual-in_err-reply.result _
    (stops-there c.args.cluster.now c.step.new.self c.step-2.new.self (ev.Apply c.args.replica c.args.entry) (reaches-step c.args.cluster.now c.step.new.self (ev.Pull c.args.replica) c.in_ok-_pulled._pulled c.in_ok-_pulled.ensures.ok) c.in_err-reply.ensures.err)
