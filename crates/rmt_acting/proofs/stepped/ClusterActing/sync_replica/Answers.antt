use Rattle.std.proofs.lemmas.Result.{IfOk-weaker}
use Rattle.rmt_acting.proofs.Bringing.{syncs, goes-idle, keeps}
use Rattle.rmt_acting.proofs.stepped.ClusterActing.sync_replica.Goals as goal

pub returns-clause-syncs : goal.returns-clause-syncs
returns-clause-syncs c = IfOk-weaker c.sync_replica.result _ _ (λ refused f. syncs c.args.self.now c.sync_replica.new.cluster c.args.replica refused f) c.sync_replica.ensures.syncs

pub returns-clause-goes_on : goal.returns-clause-goes_on
returns-clause-goes_on c = goes-idle c.sync_replica.result c.args.self.now c.sync_replica.new.cluster c.args.replica c.sync_replica.ensures.idle c.sync_replica.ensures.keeps

pub returns-clause-keeps : goal.returns-clause-keeps
returns-clause-keeps c = keeps c.args.self.now c.sync_replica.new.cluster c.sync_replica.ensures.keeps.table
