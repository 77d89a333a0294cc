-- Where workers serve may be lent to several threads.
use denote.RattleType.{RattleType}
use denote.Ref.{NamedLft}
use denote.Param.Send.{IsSend, IsSync, sendable}
use Rattle.std.proofs.Crossing.{crosses}
use Rattle.rmt_shared.specs.declared.naming.Naming as naming
use Rattle.rmt_tickets.specs.declared.naming.NamesQueue as queues
use Rattle.rmt_tickets.proofs.Crosses.{queue_sync}
use Rattle.rmt_workers.proofs.Crosses.{crew_sync}
use Rattle.rmt_play.specs.contracts.threaded.workshop.Workshop as workshop

pub workshop_sync : (a : NamedLft) (N Q R G : RattleType) (q : queues.Ghosts Q.Denot) (n : naming.Ghosts N.Denot) → IsSend Q → IsSync Q → IsSync R → IsSync G → IsSync (workshop.the_row a N Q R G q n)
workshop_sync a N Q R G q n x y r s = search (sendable, crosses, crew_sync, queue_sync) depth 30
