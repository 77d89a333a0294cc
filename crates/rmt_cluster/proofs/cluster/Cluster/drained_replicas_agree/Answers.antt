use Rattle.std.proofs.Common.{subst}
use Rattle.rmt_model.proofs.Lists.{Each-at}
use Rattle.rmt_events.specs.Whole.{Follows, IsWhole}
use Rattle.rmt_events.proofs.Converge.{drained-agree, drained-reads}
use Rattle.rmt_cluster.proofs.cluster.Cluster.drained_replicas_agree.Goals as goal

pub returns-clause-whole : goal.returns-clause-whole
returns-clause-whole c = subst IsWhole c.self.view_is c.self.invariant.whole

pub returns-clause-agree : goal.returns-clause-agree
returns-clause-agree c = λ x y h k d e q.
    let s = c.args.self.now in
    let w = subst IsWhole c.self.view_is c.self.invariant.whole in
    drained-agree s x y w (Each-at (Follows s) s.replicas x w.follow h) (Each-at (Follows s) s.replicas y w.follow k) d e q

pub returns-clause-reads : goal.returns-clause-reads
returns-clause-reads c = λ x h d.
    let s = c.args.self.now in
    let w = subst IsWhole c.self.view_is c.self.invariant.whole in
    drained-reads s x w (Each-at (Follows s) s.replicas x w.follow h) d
