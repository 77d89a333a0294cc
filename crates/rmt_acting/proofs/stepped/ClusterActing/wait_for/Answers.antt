use Rattle.std.proofs.lemmas.Result.{IfOk-weaker}
use Rattle.rmt_acting.proofs.Bringing.{waits, goes-idle, keeps}
use Rattle.rmt_acting.proofs.stepped.ClusterActing.wait_for.Goals as goal

pub returns-clause-waits : goal.returns-clause-waits
returns-clause-waits c = IfOk-weaker c.wait_for.result _ _ (λ refused f. waits c.args.self.now c.wait_for.new.cluster c.args.replica c.args.id refused f) c.wait_for.ensures.waits

pub returns-clause-goes_on : goal.returns-clause-goes_on
returns-clause-goes_on c = goes-idle c.wait_for.result c.args.self.now c.wait_for.new.cluster c.args.replica c.wait_for.ensures.idle c.wait_for.ensures.keeps

pub returns-clause-keeps : goal.returns-clause-keeps
returns-clause-keeps c = keeps c.args.self.now c.wait_for.new.cluster c.wait_for.ensures.keeps.table
