use Rattle.rmt_events.proofs.WholeSteps.{whole-step}
use Rattle.rmt_events.proofs.laws.every_event_keeps_a_cluster_whole.Goals as goal

pub returns : goal.returns
returns c = λ s t event reply w k. whole-step s t event reply w k
