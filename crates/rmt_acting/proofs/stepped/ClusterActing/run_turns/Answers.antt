use Rattle.std.proofs.lemmas.Result.{on_ok_weaker}
use Rattle.rmt_acting.proofs.Bringing.{works, goes-done, keeps}
use Rattle.rmt_acting.proofs.stepped.ClusterActing.run_turns.Goals as goal

pub returns-clause-runs : goal.returns-clause-runs
returns-clause-runs c = on_ok_weaker c.run_turns.result (λ f. works c.args.self.now c.run_turns.new.cluster c.args.turns f) c.run_turns.ensures.works

pub returns-clause-goes_on : goal.returns-clause-goes_on
returns-clause-goes_on c = goes-done c.run_turns.result c.args.self.now c.run_turns.new.cluster c.run_turns.ensures.free c.run_turns.ensures.keeps

pub returns-clause-keeps : goal.returns-clause-keeps
returns-clause-keeps c = keeps c.args.self.now c.run_turns.new.cluster c.run_turns.ensures.keeps.table
