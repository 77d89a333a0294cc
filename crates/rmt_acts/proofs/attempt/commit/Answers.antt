use Rattle.std.proofs.Common.{◌∙◌}
use Rattle.rmt_statement_model.specs.Attempts.{IsCommitReply}
use Rattle.rmt_acts.proofs.AttemptActs.{commit-answers, commits-by, commit-free, commit-ups}
use Rattle.rmt_events.specs.declared.event.Event.TheVariants as ev
use Rattle.rmt_acts.proofs.EventLists.{at-err, reaches-step, stops-first, stops-there}
use Rattle.rmt_acts.proofs.attempt.commit.Goals as goal

-- what its Commit is answered
answered : (c : goal.After-reply-2-1) → IsCommitReply c.in_ok-reply.reply
answered c =
    commit-answers c.args.cluster.now c.step.new.self c.step-2.new.self c.args.attempt c.in_ok-_staged._staged c.in_ok-reply.reply c.step.ensures.whole c.requires.up c.requires.there
    c.in_ok-_staged.ensures.ok c.in_ok-reply.ensures.ok

pub committed_by-requires : goal.committed_by-requires
committed_by-requires c = answered c

pub returns-clause-commits : goal.returns-clause-commits
returns-clause-commits c =
    commits-by c.args.cluster.now c.step.new.self c.step-2.new.self c.args.attempt c.in_ok-_staged._staged c.in_ok-reply.reply c.committed_by.result c.step.ensures.whole c.requires.up
    c.in_ok-_staged.ensures.ok c.in_ok-reply.ensures.ok c.committed_by.ensures

pub returns-clause-keeps : goal.returns-clause-keeps
returns-clause-keeps c = record {
  table = record { schema = c.step-2.ensures.keeps.schema ∙ c.step.ensures.keeps.schema; replicas = c.step-2.ensures.keeps.replicas ∙ c.step.ensures.keeps.replicas };
  ups = commit-ups c.args.cluster.now c.step.new.self c.step-2.new.self c.args.attempt c.in_ok-_staged._staged c.in_ok-reply.reply c.step.ensures.whole c.in_ok-_staged.ensures.ok c.in_ok-reply.ensures.ok;
}

pub returns-clause-free : goal.returns-clause-free
returns-clause-free c =
    commit-free c.args.cluster.now c.step.new.self c.step-2.new.self c.args.attempt c.in_ok-_staged._staged c.in_ok-reply.reply c.step.ensures.whole c.requires.up c.requires.there
    c.in_ok-_staged.ensures.ok c.in_ok-reply.ensures.ok

pub returns-in_err-_staged-clause-err : goal.returns-in_err-_staged-clause-err
returns-in_err-_staged-clause-err c = at-err c.from_residual.result _ (stops-first c.args.cluster.now c.step.new.self (ev.Stage c.args.attempt) c.in_err-_staged.ensures.err)

pub returns-in_err-reply-clause-err : goal.returns-in_err-reply-clause-err
returns-in_err-reply-clause-err c =
    at-err c.from_residual-in_err-reply.result _
    (stops-there c.args.cluster.now c.step.new.self c.step-2.new.self (ev.Commit c.args.attempt) (reaches-step c.args.cluster.now c.step.new.self (ev.Stage c.args.attempt) c.in_ok-_staged._staged c.in_ok-_staged.ensures.ok) c.in_err-reply.ensures.err)
