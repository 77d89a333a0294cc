use Rattle.std.proofs.Common.{sym, subst}
use Rattle.std.specs.Prelude.{IfSome}
use Rattle.rmt_part.specs.CellRows.{IsPartOfRow}
use Rattle.rmt_replica.specs.Supplies.{supplied}
use Rattle.rmt_shared.specs.SharedTables.{name_at}
use Rattle.rmt_shared.specs.SharedReplicas.{SharedReplicaView, IsMadeOf}
use Rattle.rmt_shared.proofs.InstallLemmas.{applied-replica}
use Rattle.rmt_shared.proofs.shared_replica.SharedReplica.install.Goals as goal

pub invariant_of-self : goal.invariant_of-self
invariant_of-self g c =
    applied-replica g.N.Naming.tables g.N.Naming.replicas g.N.Naming.offered c.self.inside.table c.self.inside.replica c.args.i c.args.supply c.apply.result c.apply.new.self c.apply.ensures.change c.self.invariant
    (subst (λ (v : SharedReplicaView). IfSome (supplied c.args.supply) (IsPartOfRow (name_at g.N.Naming.tables v.table).row)) (sym c.self.view_is) c.requires.row)
    (subst (λ (v : SharedReplicaView). IfSome (supplied c.args.supply) (IsMadeOf (g.N.Naming.offered v.table))) (sym c.self.view_is) c.requires.offered)
