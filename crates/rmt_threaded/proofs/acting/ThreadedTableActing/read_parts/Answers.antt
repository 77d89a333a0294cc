use Rattle.std.specs.Arc.{arc_value}
use Rattle.rmt_statement_model.specs.ActOutcomes.{ReadsParts}
use Rattle.rmt_threaded.proofs.ThreadedLemmas.{takes-brings-if}
use Rattle.rmt_threaded.proofs.acting.ThreadedTableActing.read_parts.Goals as goal

pub returns-clause-reads : goal.returns-clause-reads
returns-clause-reads g c =
    takes-brings-if c.snapshot.result g.O.Offers.blocks g.N.Naming.tables g.N.Naming.offered (arc_value c.self.inside.schema) g.N.Naming.replicas c.self.inside.table c.self.inside.pass c.snapshot.new.pass c.args.self.now
    (λ parts v. ReadsParts c.args.replica parts) c.self.view_is c.self.invariant c.snapshot.ensures.reads
