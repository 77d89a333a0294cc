use Rattle.rmt_workers.specs.Settled.{AreTakenBack}
use Rattle.rmt_workers.proofs.crew.close.take_all_back.Given as goal

abbrev pub invariant-locks : goal.invariant-locks
invariant-locks g l = AreTakenBack g.N.Naming.offered l.pass l.table l.tree l.replicas.items
