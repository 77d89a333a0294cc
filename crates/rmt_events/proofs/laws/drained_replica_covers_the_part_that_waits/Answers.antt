use Rattle.rmt_events.proofs.WholeNotes.{drained-covers}
use Rattle.rmt_events.proofs.laws.drained_replica_covers_the_part_that_waits.Goals as goal

pub returns : goal.returns
returns c = λ s w x h l d q e. drained-covers s x q w h l d e
