use Rattle.std.specs.Arc.{arc_value}
use Rattle.rmt_acts.specs.Checking.{AreDigests}
use Rattle.rmt_threaded.proofs.ThreadedLemmas.{takes-brings-if}
use Rattle.rmt_threaded.proofs.acting.ThreadedTableActing.part_digests.Goals as goal

pub returns-clause-digests : goal.returns-clause-digests
returns-clause-digests g c =
    takes-brings-if c.digests.result g.O.Offers.blocks g.N.Naming.tables g.N.Naming.offered (arc_value c.self.inside.schema) g.N.Naming.replicas c.self.inside.table c.self.inside.pass c.digests.new.pass c.args.self.now
    (λ all v t u. AreDigests t c.args.replica all.items u) c.self.view_is c.self.invariant c.digests.ensures.digests
