-- A cluster: what always holds of it, and which events it takes.
-- No public source: this program's own.
use Rattle.std.specs.Prelude.{◌≡◌, ◌≢◌, ◌⊎◌, ℕ, ◌≤◌, true, List, length}
use Rattle.std.specs.List.{All}
use Rattle.std.specs.Arc.{arc_value}
use Rattle.rmt_values.specs.Rows.{Shape, fits}
use Rattle.rmt_values.specs.Commands.{CommandFits}
use Rattle.rmt_entries.specs.declared.entry.Entry.{Entry}
use Rattle.rmt_entries.specs.EntryBytes.{CommandInRange}
use Rattle.rmt_model.specs.Words.{Has, Each}
use Rattle.rmt_model.specs.Lawful.{IsPrefix}
use Rattle.rmt_events.specs.Clusters.{Attempt, Cluster}
use Rattle.rmt_events.specs.ClusterChanges.{AtReplica}
use Rattle.rmt_events.specs.Steps.{Kills}
use Rattle.rmt_events.specs.Whole.{IsWhole}
use Rattle.rmt_events.specs.declared.event.Event.{Event}
use Rattle.rmt_events.specs.declared.event.Event.TheVariants as ev
use Rattle.rmt_events.specs.declared.reply.Reply.{Reply}
use Rattle.rmt_events.specs.declared.reply.Reply.TheVariants as rp
use Rattle.rmt_state.specs.States.{StateView, numbers_given, IsNumber, cluster_of, Acts}
use Rattle.rmt_state.specs.Pulls.{PullsTo, PullsSome}
use Rattle.rmt_cluster.specs.Attempts.{OpenAttempts}
use Rattle.rmt_cluster.specs.Acting.{AreSame}

-- the event is one that a table of this schema with so many replicas takes: its replica is there, its block's rows fit the
-- table's columns, it asks for no quorum or for one of two replicas and more, its command is one of the schema
abbrev pub IsTaken : Shape → ℕ → Event → Type 0
IsTaken schema count (ev.Allocate k b need) = IsNumber k count × (need ≢ 1) × All (λ row. fits schema.columns row ≡ true) (arc_value b).rows
IsTaken schema count (ev.Again id) = Unit {0}
IsTaken schema count (ev.Stage id) = Unit {0}
IsTaken schema count (ev.Commit id) = Unit {0}
IsTaken schema count (ev.Abandon id) = Unit {0}
IsTaken schema count (ev.Pull k) = IsNumber k count
IsTaken schema count (ev.Apply k i) = IsNumber k count
IsTaken schema count (ev.Merge k sources) = IsNumber k count
IsTaken schema count (ev.Mutate k old upto) = IsNumber k count
IsTaken schema count (ev.CreateMutation command) = CommandFits schema command × CommandInRange command
IsTaken schema count (ev.DropPartition p) = Unit {0}
IsTaken schema count (ev.Kill k) = IsNumber k count
IsTaken schema count (ev.Restart k) = IsNumber k count
IsTaken schema count (ev.Note k) = IsNumber k count
IsTaken schema count (ev.Fetches k allowed) = IsNumber k count

-- the cluster takes the event
abbrev pub MayStep : Cluster → Event → Type 0
MayStep s event = IsTaken s.table.schema (length s.replicas) event

-- the cluster is whole, and has a replica; each attempt took a number, and was made at one of its replicas; each event was one
-- that it takes
pub record IsCluster (s : StateView) (a : OpenAttempts) (events : List (Event × Reply)) : Type 0 where
  pub whole : IsWhole (cluster_of s a.made a.open_ones events)
  pub some : 1 ≤ length s.replicas
  pub counted : a.made ≤ numbers_given s.tree.next
  pub here : (x : Attempt) → Has a.open_ones x → IsNumber x.replica (length s.replicas)
  pub taken : Each (λ x. IsTaken s.tree.schema (length s.replicas) x.0) events

-- ---- where no memory was left

-- some of the log was pulled, or nothing
pub record PullsPart (s : Cluster) (k : ℕ) (t : Cluster) : Type 0 where
  pub log : List Entry
  pub prefix : IsPrefix log s.table.log
  pub at : AtReplica s k (PullsTo log) t

-- what an event has changed that wanted memory in its midst: a pull has copied some of the log, and a replica that was to
-- restart is killed
abbrev pub StopsMidway : Cluster → Event → Cluster → Type 0
StopsMidway s (ev.Pull k) t = PullsPart s k t
StopsMidway s (ev.Restart k) t = Kills s k rp.Done t
StopsMidway s event t = ⊥

-- what an event leaves for which no memory was left: nothing changed, or it stopped midway
abbrev pub Stops : Cluster → Event → Cluster → Type 0
Stops s event t = (t ≡ s) ⊎ StopsMidway s event t

-- ---- what only private functions cite

-- the same of a state
abbrev pub MayAct : StateView → Event → Type 0
MayAct s event = IsTaken s.tree.schema (length s.tree.sessions) event

-- nothing changed
pub record NothingChanged (s : StateView) (a : OpenAttempts) (t : StateView) (b : OpenAttempts) : Type 0 where
  pub state : t ≡ s
  pub attempts : AreSame a b

-- what an event leaves of a state and its attempts for which no memory was left
abbrev pub AfterError : StateView → OpenAttempts → Event → StateView → OpenAttempts → Type 0
AfterError s a (ev.Pull k) t b = PullsSome s k t × AreSame a b
AfterError s a (ev.Restart k) t b = Acts s (ev.Kill k) rp.Done t × AreSame a b
AfterError s a event t b = NothingChanged s a t b
