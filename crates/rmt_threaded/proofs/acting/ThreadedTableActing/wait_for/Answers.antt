use Rattle.std.proofs.Common.{true}
use Rattle.std.specs.Arc.{arc_value}
use Rattle.rmt_statement_model.specs.ActOutcomes.{WaitsOr}
use Rattle.rmt_pass.specs.Passes.{up_in}
use Rattle.rmt_threaded.proofs.ThreadedLemmas.{takes-brings-if}
use Rattle.rmt_threaded.proofs.acting.ThreadedTableActing.wait_for.Goals as goal

pub returns-clause-waits : goal.returns-clause-waits
returns-clause-waits g c =
    takes-brings-if c.wait_mutation.result g.O.Offers.blocks g.N.Naming.tables g.N.Naming.offered (arc_value c.self.inside.schema) g.N.Naming.replicas c.self.inside.table c.self.inside.pass c.wait_mutation.new.pass c.args.self.now
    (λ refused v t u. WaitsOr true (up_in v.pass.up) c.args.replica c.args.id refused t u) c.self.view_is c.self.invariant c.wait_mutation.ensures.waits
