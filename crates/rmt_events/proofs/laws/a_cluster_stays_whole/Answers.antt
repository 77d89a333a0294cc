use Rattle.rmt_events.specs.Starts.{new_cluster}
use Rattle.rmt_events.proofs.Started.{whole-start}
use Rattle.rmt_events.proofs.WholeSteps.{whole-after}
use Rattle.rmt_events.proofs.laws.a_cluster_stays_whole.Goals as goal

pub returns : goal.returns
returns c = λ schema sessions replicas n events s a. whole-after (new_cluster schema sessions replicas) s events (whole-start schema sessions replicas n) a
