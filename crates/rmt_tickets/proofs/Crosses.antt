-- The queue may be lent to several threads, and a worker's place handed to one.
use denote.RattleType.{RattleType}
use denote.Param.Send.{IsSend, IsSync, sendable}
use Rattle.std.proofs.Crossing.{crosses}
use Rattle.atomic_table.proofs.shared.Seat.TheSendSync.{the_send as seat_send}
use Rattle.atomic_table.proofs.shared.Shared.TheSendSync.{the_send as shared_send, the_sync as shared_sync}
use Rattle.atomic_table.proofs.send_lease.SendLease.TheSendSync.{the_send as lease_send, the_sync as lease_sync}
use Rattle.rmt_tickets.specs.declared.naming.NamesQueue.{Ghosts}
use Rattle.rmt_tickets.specs.contracts.queue.BlankQueue as blank
use Rattle.rmt_tickets.specs.contracts.queue.TicketQueue as queue
use Rattle.rmt_tickets.specs.contracts.counted.CountedPass as counted
use Rattle.rmt_tickets.specs.contracts.tickets.Tickets as tickets

pub blank_send : IsSend blank.the_row
blank_send = search (sendable, crosses, seat_send, shared_send, lease_send) depth 30

pub queue_send : (N : RattleType) (g : Ghosts N.Denot) → IsSend N → IsSend (queue.the_row N g)
queue_send N g n = search (sendable, crosses, shared_send, lease_send) depth 30

pub queue_sync : (N : RattleType) (g : Ghosts N.Denot) → IsSend N → IsSync N → IsSync (queue.the_row N g)
queue_sync N g n s = search (sendable, crosses, shared_sync, lease_sync) depth 30

pub counted_send : (N : RattleType) (g : Ghosts N.Denot) → IsSend N → IsSend (counted.the_row N g)
counted_send N g n = search (sendable, crosses, seat_send) depth 30

pub tickets_send : (N : RattleType) (g : Ghosts N.Denot) → IsSend N → IsSend (tickets.the_row N g)
tickets_send N g n = search (sendable, crosses, counted_send) depth 30
