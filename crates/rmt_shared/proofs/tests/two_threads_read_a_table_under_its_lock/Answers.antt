use denote.Param.Send.{sendable}
use Rattle.std.proofs.Crossing.{crosses}
use Rattle.rmt_shared.proofs.Crosses.{table_send}
use Rattle.rmt_shared.proofs.tests.two_threads_read_a_table_under_its_lock.Goals as goal

pub join-first-requires-send-F : goal.join-first-requires-send-F
join-first-requires-send-F g c κs = search (sendable, crosses, table_send) depth 20
