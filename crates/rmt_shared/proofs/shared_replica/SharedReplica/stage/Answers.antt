use Rattle.std.proofs.Common.{sym, subst}
use Rattle.std.specs.Arc.{arc_value}
use Rattle.rmt_shared.specs.SharedTables.{name_at}
use Rattle.rmt_shared.specs.SharedReplicas.{SharedReplicaView}
use Rattle.rmt_shared.specs.ReplicaSupplies.{IsBlockOfNamed}
use Rattle.rmt_shared.proofs.OutsideLemmas.{stage-shared}
use Rattle.rmt_shared.proofs.shared_replica.SharedReplica.stage.Goals as goal

pub invariant_of-self : goal.invariant_of-self
invariant_of-self g c =
    let b = arc_value c.args.block in
    stage-shared g.N.Naming.tables g.N.Naming.replicas g.N.Naming.offered c.self.inside.table c.self.inside.replica c.stage.new.self (record { partition = b.partition; number = c.args.number }) b c.stage.result c.self.invariant
    (subst (λ (v : SharedReplicaView). IsBlockOfNamed (name_at g.N.Naming.tables v.table) (g.N.Naming.offered v.table) b) (sym c.self.view_is) c.requires.of)
    c.stage.ensures.ok c.stage.ensures.err
