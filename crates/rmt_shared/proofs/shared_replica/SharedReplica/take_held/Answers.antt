use Rattle.std.proofs.Common.{sym, subst}
use Rattle.std.specs.Prelude.{IfSome}
use Rattle.rmt_row.specs.Token.{IsOf}
use Rattle.rmt_shared.specs.SharedTables.{name_at}
use Rattle.rmt_shared.specs.SharedReplicas.{SharedReplicaView}
use Rattle.rmt_shared.specs.ReplicaSupplies.{IsHeldFrom}
use Rattle.rmt_shared.proofs.NamedSupplies.{held-from}
use Rattle.rmt_shared.proofs.shared_replica.SharedReplica.take_held.Goals as goal

pub returns-clause-of : goal.returns-clause-of
returns-clause-of g c =
    let held = c.in_ok-held.held in
    let get = c.args.get.now in
    let inside : SharedReplicaView = record { table = c.self.inside.table; replica = c.self.inside.replica } in
    let row = subst (λ (v : SharedReplicaView). IsOf (name_at g.N.Naming.tables v.table).row get) (sym c.self.view_is) c.requires.row in
    subst (λ (v : SharedReplicaView). IfSome held (IsHeldFrom (name_at g.N.Naming.tables v.table) (g.N.Naming.offered v.table))) c.self.view_is
    (held-from g.N.Naming.tables g.N.Naming.replicas g.N.Naming.offered inside c.self.invariant get c.args.name.now c.args.len held c.copy-standing.ensures.standing row c.in_ok-held.ensures)
