use Rattle.std.specs.Arc.{arc_value}
use Rattle.rmt_statement_model.specs.ActOutcomes.{MutatesOr}
use Rattle.rmt_threaded.proofs.ThreadedLemmas.{takes-brings-if}
use Rattle.rmt_threaded.proofs.acting.ThreadedTableActing.mutate.Goals as goal

pub returns-clause-mutates : goal.returns-clause-mutates
returns-clause-mutates g c =
    takes-brings-if c.alter.result g.O.Offers.blocks g.N.Naming.tables g.N.Naming.offered (arc_value c.self.inside.schema) g.N.Naming.replicas c.self.inside.table c.self.inside.pass c.alter.new.pass c.args.self.now
    (λ made v. MutatesOr c.args.command made) c.self.view_is c.self.invariant c.alter.ensures.done
