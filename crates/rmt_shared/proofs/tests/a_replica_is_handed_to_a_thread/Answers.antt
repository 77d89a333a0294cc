use denote.Param.Send.{sendable}
use Rattle.std.proofs.Crossing.{crosses}
use Rattle.rmt_shared.proofs.Crosses.{replica_send}
use Rattle.rmt_shared.proofs.tests.a_replica_is_handed_to_a_thread.Goals as goal

pub join-number-requires-send-F : goal.join-number-requires-send-F
join-number-requires-send-F g c κs = search (sendable, crosses, replica_send) depth 20
