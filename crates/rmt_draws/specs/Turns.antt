-- The turn that a generator draws at replicas.
-- The generator is the example of rand() in the C standard (ISO/IEC 9899, section on pseudo-random sequences). Which event a
-- draw gives is this program's own.
use Rattle.std.specs.Prelude.{◌≡◌, ℕ, List, map}
use Rattle.rmt_replica.specs.Replicas.{ReplicaView}
use Rattle.rmt_replica.specs.SeenReplica.{shown}
use Rattle.rmt_events.specs.Clusters.{Cluster}
use Rattle.rmt_events.specs.Draws.{turn}
use Rattle.rmt_events.specs.declared.event.Event.{Event}

-- in every cluster of these replicas the turn from this state of the generator is the event, and leaves that state
pub record IsTurn (replicas : List ReplicaView) (x : ℕ) (event : Event) (state : ℕ) : Type 0 where
  pub event_is : (s : Cluster) → s.replicas ≡ map shown replicas → event ≡ (turn s x).event
  pub state_is : (s : Cluster) → s.replicas ≡ map shown replicas → state ≡ (turn s x).state
