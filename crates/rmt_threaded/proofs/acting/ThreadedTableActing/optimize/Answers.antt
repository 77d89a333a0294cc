use Rattle.std.proofs.Common.{true}
use Rattle.std.specs.Arc.{arc_value}
use Rattle.rmt_statement_model.specs.Optimizes.{OptimizesTable}
use Rattle.rmt_pass.specs.Passes.{up_in}
use Rattle.rmt_threaded.proofs.ThreadedLemmas.{takes-brings-if}
use Rattle.rmt_threaded.proofs.acting.ThreadedTableActing.optimize.Goals as goal

pub returns-clause-optimizes : goal.returns-clause-optimizes
returns-clause-optimizes g c =
    takes-brings-if c.optimize.result g.O.Offers.blocks g.N.Naming.tables g.N.Naming.offered (arc_value c.self.inside.schema) g.N.Naming.replicas c.self.inside.table c.self.inside.pass c.optimize.new.pass c.args.self.now
    (λ o v t u. OptimizesTable true (up_in v.pass.up) t c.args.replica c.args.asked o.names o.refused u) c.self.view_is c.self.invariant c.optimize.ensures.optimizes
