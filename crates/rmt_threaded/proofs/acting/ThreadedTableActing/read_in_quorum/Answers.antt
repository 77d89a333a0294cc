use Rattle.std.specs.Arc.{arc_value}
use Rattle.rmt_statement_model.specs.ActOutcomes.{ReadsQuorum}
use Rattle.rmt_threaded.proofs.ThreadedLemmas.{takes-brings-if}
use Rattle.rmt_threaded.proofs.acting.ThreadedTableActing.read_in_quorum.Goals as goal

pub returns-clause-reads : goal.returns-clause-reads
returns-clause-reads g c =
    takes-brings-if c.quorum_snapshot.result g.O.Offers.blocks g.N.Naming.tables g.N.Naming.offered (arc_value c.self.inside.schema) g.N.Naming.replicas c.self.inside.table c.self.inside.pass c.quorum_snapshot.new.pass c.args.self.now
    (λ found v. ReadsQuorum c.args.replica found) c.self.view_is c.self.invariant c.quorum_snapshot.ensures.reads
