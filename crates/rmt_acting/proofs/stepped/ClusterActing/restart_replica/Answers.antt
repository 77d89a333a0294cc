use Rattle.std.proofs.lemmas.Result.{on_ok_weaker}
use Rattle.rmt_acting.proofs.Bringing.{brings-to, goes-done, keeps}
use Rattle.rmt_acting.proofs.stepped.ClusterActing.restart_replica.Goals as goal

pub returns-clause-restarts : goal.returns-clause-restarts
returns-clause-restarts c = on_ok_weaker c.restart_replica.result (λ f. brings-to c.args.self.now c.restart_replica.new.cluster (λ t. t) f) c.restart_replica.ensures.restarts

pub returns-clause-goes_on : goal.returns-clause-goes_on
returns-clause-goes_on c = goes-done c.restart_replica.result c.args.self.now c.restart_replica.new.cluster (on_ok_weaker c.restart_replica.result (λ i. i.free) c.restart_replica.ensures.idle) c.restart_replica.ensures.keeps

pub returns-clause-keeps : goal.returns-clause-keeps
returns-clause-keeps c = keeps c.args.self.now c.restart_replica.new.cluster c.restart_replica.ensures.keeps.table
