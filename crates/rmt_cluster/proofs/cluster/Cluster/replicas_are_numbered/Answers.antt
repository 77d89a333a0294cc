use Rattle.std.proofs.Common.{ap, sym}
use Rattle.rmt_events.specs.Clusters.{Cluster}
use Rattle.rmt_cluster.proofs.ReadingLemmas.{has-number}
use Rattle.rmt_cluster.proofs.cluster.Cluster.replicas_are_numbered.Goals as goal

pub returns : goal.returns
returns c k n = has-number c.args.self.now c.self.inside.state k (sym (ap (λ (v : Cluster). v.replicas) c.self.view_is)) c.sound.ensures.state n
