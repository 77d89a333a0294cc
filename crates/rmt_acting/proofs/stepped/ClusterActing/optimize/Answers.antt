use Rattle.std.proofs.Common.{false}
use Rattle.std.proofs.lemmas.Result.{IfOk-weaker}
use Rattle.rmt_statement_model.specs.Optimizes.{OptimizesTable}
use Rattle.rmt_statement_model.specs.Shows.{ups}
use Rattle.rmt_acting.proofs.Bringing.{brings, goes-idle, keeps}
use Rattle.rmt_acting.proofs.stepped.ClusterActing.optimize.Goals as goal

pub returns-clause-optimizes : goal.returns-clause-optimizes
returns-clause-optimizes c = IfOk-weaker c.optimize.result _ _ (λ o f. brings c.args.self.now c.optimize.new.cluster
    (λ t. OptimizesTable false (ups c.args.self.now) t c.args.replica c.args.asked o.names o.refused) f) c.optimize.ensures.optimizes

pub returns-clause-goes_on : goal.returns-clause-goes_on
returns-clause-goes_on c = goes-idle c.optimize.result c.args.self.now c.optimize.new.cluster c.args.replica c.optimize.ensures.idle c.optimize.ensures.keeps

pub returns-clause-keeps : goal.returns-clause-keeps
returns-clause-keeps c = keeps c.args.self.now c.optimize.new.cluster c.optimize.ensures.keeps.table
