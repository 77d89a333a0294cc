-- A crew may be handed to another thread, and lent to several.
use denote.RattleType.{RattleType}
use denote.Param.Send.{IsSend, IsSync, sendable}
use Rattle.std.proofs.Crossing.{crosses}
use Rattle.rmt_shared.specs.declared.naming.Naming.{Ghosts}
use Rattle.rmt_shared.proofs.Crosses.{shared_tables_send, shared_replica_send}
use Rattle.rmt_workers.specs.contracts.crew.Crew as crew

pub crew_send : (N : RattleType) (g : Ghosts N.Denot) → IsSend (crew.the_row N g)
crew_send N g = search (sendable, crosses, shared_tables_send, shared_replica_send) depth 30

pub crew_sync : (N : RattleType) (g : Ghosts N.Denot) → IsSync (crew.the_row N g)
crew_sync N g = search (sendable, crosses, shared_tables_send, shared_replica_send) depth 30
