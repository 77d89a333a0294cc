use Rattle.std.proofs.Common.{◌≡◌, ◌∷◌, ◌++◌, [], List, length, arith, sym, subst}
use Rattle.std.proofs.lemmas.Grind.{common_steps}
use Rattle.rmt_replica.specs.Replicas.{ReplicaView}
use Rattle.rmt_workers.specs.Settled.{AreTakenBack, IsTakenBack}
use Rattle.rmt_workers.proofs.CloseLemmas.{back-more, none-back}
use Rattle.rmt_workers.proofs.crew.close.take_all_back.Goals as goal

pub locks-init : goal.locks-init
locks-init g c =
    subst (λ (rs : List ReplicaView). AreTakenBack g.N.Naming.offered c.args.pass.now c.args.table c.args.tree.now rs) (sym c.in_ok-replicas.ensures.items)
    (none-back g.N.Naming.offered c.args.pass.now c.args.table c.args.tree.now)

pub locks-preserved : goal.locks-preserved
locks-preserved g c =
    let n : c.len-in-locks.result ≡ length c.locks.replicas.items = grind (arith, common_steps) in
    subst (λ (rs : List ReplicaView). AreTakenBack g.N.Naming.offered c.args.pass.now c.args.table c.args.tree.now rs) (sym c.in_ok-push.ensures.items)
    (back-more g.N.Naming.offered c.args.pass.now c.args.table c.args.tree.now c.len-in-locks.result c.locks.replicas.items c.in_ok-replica.replica n c.locks.invariant c.in_ok-replica.ensures)
