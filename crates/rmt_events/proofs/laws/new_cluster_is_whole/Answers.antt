use Rattle.rmt_events.proofs.Started.{whole-start}
use Rattle.rmt_events.proofs.laws.new_cluster_is_whole.Goals as goal

pub returns : goal.returns
returns c = λ schema sessions replicas n. whole-start schema sessions replicas n
