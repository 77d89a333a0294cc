use Rattle.rmt_events.proofs.RunLemmas.{whole-runs}
use Rattle.rmt_events.proofs.laws.a_run_keeps_a_cluster_whole.Goals as goal

pub returns : goal.returns
returns c = λ s t seed turns x w r. whole-runs s seed turns t x w r
