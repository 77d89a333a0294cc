use Rattle.std.proofs.lemmas.Result.{IfOk-weaker}
use Rattle.rmt_acting.proofs.Bringing.{drops, goes-idle, keeps}
use Rattle.rmt_acting.proofs.stepped.ClusterActing.drop_partition.Goals as goal

pub returns-clause-drops : goal.returns-clause-drops
returns-clause-drops c = IfOk-weaker c.drop_partition.result _ _ (λ below f. drops c.args.self.now c.drop_partition.new.cluster c.args.replica c.args.partition below f) c.drop_partition.ensures.drops

pub returns-clause-goes_on : goal.returns-clause-goes_on
returns-clause-goes_on c = goes-idle c.drop_partition.result c.args.self.now c.drop_partition.new.cluster c.args.replica c.drop_partition.ensures.idle c.drop_partition.ensures.keeps

pub returns-clause-keeps : goal.returns-clause-keeps
returns-clause-keeps c = keeps c.args.self.now c.drop_partition.new.cluster c.drop_partition.ensures.keeps.table
