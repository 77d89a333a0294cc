use Rattle.rmt_model.proofs.Lists.{Each-at}
use Rattle.rmt_events.specs.Whole.{Follows}
use Rattle.rmt_events.proofs.Converge.{drained-live, drained-contents}
use Rattle.rmt_events.proofs.laws.drained_replica_has_the_live_parts.Goals as goal

pub returns-clause-names : goal.returns-clause-names
returns-clause-names c = λ s w x h d. drained-live s x (Each-at (Follows s) s.replicas x w.follow h) d

pub returns-clause-rows : goal.returns-clause-rows
returns-clause-rows c = λ s w x h d. drained-contents s x w (Each-at (Follows s) s.replicas x w.follow h) d
