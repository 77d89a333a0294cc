use denote.Param.Send.{sendable}
use Rattle.std.proofs.Crossing.{crosses}
use Rattle.rmt_shared.proofs.Crosses.{snapshot_sync}
use Rattle.rmt_shared.proofs.tests.two_threads_read_a_snapshot.Goals as goal

pub join-first-requires-send-F : goal.join-first-requires-send-F
join-first-requires-send-F g c κs = search (sendable, crosses, snapshot_sync) depth 20
