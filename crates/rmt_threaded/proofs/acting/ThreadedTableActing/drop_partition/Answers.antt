use Rattle.std.specs.Arc.{arc_value}
use Rattle.rmt_statement_model.specs.ActOutcomes.{DropsOr}
use Rattle.rmt_threaded.proofs.ThreadedLemmas.{takes-brings-if}
use Rattle.rmt_threaded.proofs.acting.ThreadedTableActing.drop_partition.Goals as goal

pub returns-clause-drops : goal.returns-clause-drops
returns-clause-drops g c =
    takes-brings-if c.drop_partition.result g.O.Offers.blocks g.N.Naming.tables g.N.Naming.offered (arc_value c.self.inside.schema) g.N.Naming.replicas c.self.inside.table c.self.inside.pass c.drop_partition.new.pass c.args.self.now
    (λ below v. DropsOr c.args.replica c.args.partition below) c.self.view_is c.self.invariant c.drop_partition.ensures.done
