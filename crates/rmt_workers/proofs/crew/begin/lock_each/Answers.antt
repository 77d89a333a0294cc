use Rattle.std.proofs.Common.{◌≡◌, ◌∷◌, arith, subst}
use Rattle.std.proofs.lemmas.Grind.{common_steps}
use Rattle.rmt_model.specs.Words.{Each}
use Rattle.rmt_replica.specs.Replicas.{ReplicaView}
use Rattle.rmt_shared.specs.SharedTables.{name_at}
use Rattle.rmt_workers.specs.Settled.{MayShare}
use Rattle.rmt_workers.proofs.BeginLemmas.{shares}
use Rattle.rmt_workers.proofs.crew.begin.lock_each.Goals as goal

pub new-requires : goal.new-requires
new-requires g c =
    let step : c.replicas.replica-iterator.rest.items ≡ c.in-Some.replica ∷ c.next.new.self.rest.items = grind (arith, common_steps) in
    let k = c.args.table in
    shares g.N.Naming.tables g.N.Naming.replicas g.N.Naming.offered k c.in-Some.replica (subst (Each (MayShare (name_at g.N.Naming.tables k) g.N.Naming.replicas (g.N.Naming.offered k))) step c.replicas.invariant).0

pub replicas-preserved : goal.replicas-preserved
replicas-preserved g c =
    let step : c.replicas.replica-iterator.rest.items ≡ c.in-Some.replica ∷ c.next.new.self.rest.items = grind (arith, common_steps) in
    let k = c.args.table in
    (subst (Each (MayShare (name_at g.N.Naming.tables k) g.N.Naming.replicas (g.N.Naming.offered k))) step c.replicas.invariant).1
