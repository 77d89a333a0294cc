use Rattle.std.proofs.Common.{subst}
use Rattle.rmt_shared.specs.SharedTables.{name_at}
use Rattle.rmt_shared.specs.SharedReplicas.{SharedReplicaView}
use Rattle.rmt_shared.specs.ReplicaSupplies.{IsTakenFrom}
use Rattle.rmt_shared.proofs.NamedSupplies.{taken-from}
use Rattle.rmt_shared.proofs.shared_replica.SharedReplica.take.Goals as goal

pub returns-clause-of : goal.returns-clause-of
returns-clause-of g c =
    let t = c.in_ok-taken.taken in
    let inside : SharedReplicaView = record { table = c.self.inside.table; replica = c.self.inside.replica } in
    subst (λ (v : SharedReplicaView). IsTakenFrom (name_at g.N.Naming.tables v.table) (g.N.Naming.offered v.table) t) c.self.view_is
    (taken-from g.N.Naming.tables g.N.Naming.replicas g.N.Naming.offered inside c.self.invariant c.args.i t c.copy-standing.ensures.standing c.in_ok-taken.ensures.ok)
