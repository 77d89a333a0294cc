use denote.Param.Send.{sendable}
use Rattle.std.proofs.Crossing.{crosses}
use Rattle.rmt_shared.proofs.Crosses.{supply_send}
use Rattle.rmt_shared.proofs.tests.a_part_is_handed_to_a_thread.Goals as goal

pub join-is_built-requires-send-F : goal.join-is_built-requires-send-F
join-is_built-requires-send-F g c κs = search (sendable, crosses, supply_send) depth 20
