use Rattle.rmt_statement_model.proofs.RunRows.{run-row, run-free, run-ups}
use Rattle.rmt_acts.proofs.ChangeActs.{on-ok}
use Rattle.rmt_acts.proofs.background.run_turns.Goals as goal

pub returns-clause-works : goal.returns-clause-works
returns-clause-works c =
    on-ok c.run.result _ _ (λ y. run-row c.args.cluster.now c.run.new.self c.args.seed c.args.turns y.0 c.drained_replicas_agree.ensures.whole y.1) c.run.ensures.ok

pub returns-clause-free : goal.returns-clause-free
returns-clause-free c =
    on-ok c.run.result _ _ (λ y. run-free c.args.cluster.now c.run.new.self c.args.seed c.args.turns y.0 c.drained_replicas_agree.ensures.whole y.1 c.requires.free) c.run.ensures.ok

pub returns-clause-keeps : goal.returns-clause-keeps
returns-clause-keeps c = record {
  table = c.run.ensures.keeps;
  ups = on-ok c.run.result _ _ (λ y. run-ups c.args.cluster.now c.run.new.self c.args.seed c.args.turns y.0 c.drained_replicas_agree.ensures.whole y.1) c.run.ensures.ok;
}
