use Rattle.rmt_replica.proofs.Agreement.{drained-live}
use Rattle.rmt_replica.proofs.laws.drained_is_live.Goals as goal

pub returns : goal.returns
returns c = drained-live
