use Rattle.rmt_model.specs.Words.{Each}
use Rattle.rmt_shared.specs.SharedTables.{name_at}
use Rattle.rmt_workers.specs.Settled.{MayShare}
use Rattle.rmt_workers.proofs.crew.begin.lock_each.Given as goal

abbrev pub invariant-replicas : goal.invariant-replicas
invariant-replicas g l = Each (MayShare (name_at g.N.Naming.tables l.table) g.N.Naming.replicas (g.N.Naming.offered l.table)) l.replica-iterator.rest.items
