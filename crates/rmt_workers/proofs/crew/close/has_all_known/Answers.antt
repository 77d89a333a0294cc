use Rattle.std.proofs.Common.{◌≡◌, sym, ap, ◌∙◌}
use Rattle.rmt_replica.specs.Replicas.{ReplicaView}
use Rattle.rmt_pass.specs.Passes.{client_at}
use Rattle.rmt_workers.proofs.CloseLemmas.{down-again, still-has}
use Rattle.rmt_workers.proofs.crew.close.has_all_known.Goals as goal

pub returns-clause-replica : goal.returns-clause-replica
returns-clause-replica g c =
    down-again c.args.here.now.replica c.restart.new.self.replica c.kill.new.self.replica _ (sym (ap (λ (r : ReplicaView). r.up) c.replica.ensures.same) ∙ (sym c.is_up.ensures ∙ c.if-is_up.false)) c.restart.ensures.replica c.kill.ensures.replica

pub returns-clause-has : goal.returns-clause-has
returns-clause-has g c = λ t. still-has (client_at c.args.pass.now c.args.table) c.restart.new.self.replica c.kill.new.self.replica c.kill.ensures.replica (c.in_ok-has.ensures t)
