use Rattle.rmt_shared.proofs.OutsideLemmas.{unstage-shared}
use Rattle.rmt_shared.proofs.shared_replica.SharedReplica.unstage.Goals as goal

pub invariant_of-self : goal.invariant_of-self
invariant_of-self g c =
    unstage-shared g.N.Naming.tables g.N.Naming.replicas g.N.Naming.offered c.self.inside.table c.self.inside.replica c.unstage.new.self (record { partition = c.args.partition; number = c.args.number }) c.self.invariant c.unstage.ensures
