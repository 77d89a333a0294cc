use Rattle.std.specs.Arc.{arc_value}
use Rattle.rmt_statement_model.specs.ActOutcomes.{SyncsOr}
use Rattle.rmt_pass.specs.Passes.{up_in}
use Rattle.rmt_threaded.proofs.ThreadedLemmas.{takes-brings-if}
use Rattle.rmt_threaded.proofs.acting.ThreadedTableActing.sync_replica.Goals as goal

pub returns-clause-syncs : goal.returns-clause-syncs
returns-clause-syncs g c =
    takes-brings-if c.sync.result g.O.Offers.blocks g.N.Naming.tables g.N.Naming.offered (arc_value c.self.inside.schema) g.N.Naming.replicas c.self.inside.table c.self.inside.pass c.sync.new.pass c.args.self.now
    (λ refused v. SyncsOr (up_in v.pass.up) c.args.replica refused) c.self.view_is c.self.invariant c.sync.ensures.syncs
