-- Turns of a cluster, whose events a generator draws.
-- No public source: this program's own.
use Rattle.std.specs.Prelude.{◌≡◌, ◌⊎◌, ℕ, ◌<◌}
use Rattle.std.specs.declared.option.Option.{Option}
use Rattle.std.specs.declared.option.Option.TheVariants.{Some, None}
use Rattle.rmt_events.specs.Clusters.{Cluster}
use Rattle.rmt_events.specs.Draws.{Runs, TurnsTo, noting, turn}
use Rattle.rmt_events.specs.Steps.{Step}
use Rattle.rmt_events.specs.declared.event.Event.{Event}
use Rattle.rmt_events.specs.declared.event.Event.TheVariants as ev
use Rattle.rmt_events.specs.declared.reply.Reply.{Reply}
use Rattle.rmt_cluster.specs.Clusters.{Stops}

-- so many turns from a state of the generator lead from one cluster to another, each drawn from the cluster before it
abbrev pub RunsAll : Cluster → ℕ → ℕ → Cluster → Type 0
RunsAll s seed turns t = (x : ℕ) × Runs s seed turns t x

-- the event of a turn was done, and no memory was left for the note after it
pub record StopsAtNote (s : Cluster) (event : Event) (t : Cluster) : Type 0 where
  pub mid : Cluster
  pub reply : Reply
  pub step : Step s event reply mid
  pub replica : ℕ
  pub notes : noting s event mid ≡ Some replica
  pub stops : Stops mid (ev.Note replica) t

-- no memory was left for a turn: its event stopped, or wasn't drawn, or the note after it stopped
abbrev pub StopsTurn : Cluster → Event → Cluster → Type 0
StopsTurn s event t = Stops s event t ⊎ StopsAtNote s event t

-- fewer turns were made, and no memory was left for the next one
pub record RunsSome (s : Cluster) (seed turns : ℕ) (t : Cluster) : Type 0 where
  pub made : ℕ
  pub few : made < turns
  pub mid : Cluster
  pub state : ℕ
  pub runs : Runs s seed made mid state
  pub stops : StopsTurn mid (turn mid state).event t

-- ---- what only private functions cite

-- one turn from a state of the generator leads to another cluster, and leaves that state
pub record TakesTurn (s : Cluster) (x : ℕ) (t : Cluster) (next : ℕ) : Type 0 where
  pub turns : TurnsTo s (turn s x).event t
  pub state : next ≡ (turn s x).state

-- an event leads from one cluster to another, whatever its reply is
abbrev pub DoesEvent : Cluster → Event → Cluster → Type 0
DoesEvent s event t = (reply : Reply) × Step s event reply t

-- the replica at which an event does an entry; none at another event
abbrev pub replica_applying : Event → Option ℕ
replica_applying (ev.Apply k i) = Some k
replica_applying event = None
