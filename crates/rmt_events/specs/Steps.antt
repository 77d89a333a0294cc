-- What each event does: the one call that it makes, or why it is refused; and what a list of events leads to.
-- No public source: the events are this program's own, one for each call on a table or a replica that ClickHouse's
-- documentation on Data Replication and ALTER speaks of.
use Rattle.std.specs.Prelude.{◌≡◌, ◌⊎◌, ℕ, Bool, true, false, List, [], ◌∷◌, length}
use Rattle.std.specs.declared.option.Option.TheVariants.{Some}
use Rattle.std.specs.Arc.{arc_value}
use Rattle.rmt_model.specs.Fair.{CoveredBy}
use Rattle.rmt_model.specs.CopiedParts.{names_of}
use Rattle.rmt_model.specs.Quorum.{Pending}
use Rattle.rmt_events.specs.Views.{Replica, Table}
use Rattle.rmt_events.specs.TableCalls.{CreatesMutation, DropsPartition, Closes, Opens, Notes}
use Rattle.rmt_events.specs.TableRefusals.{NoNumber, NoMutation, NoDrop}
use Rattle.rmt_events.specs.ReplicaCalls.{Pulls, GoesDown, ComesUp, NotesPart}
use Rattle.rmt_events.specs.Clusters.{Cluster, without_kinds, with_replica}
use Rattle.rmt_events.specs.ClusterChanges.{IsNumbered, cluster_with, Declines, AtReplica, Appends, IsDown, IsUp}
use Rattle.rmt_events.specs.InsertEvents.{BeginsAttempt, RenewsAttempt, NoOther, StagesAttempt, NoStage, AcceptsBlock, EndsAttempt, NoCommit, LosesAttempt, NoEnd}
use Rattle.rmt_events.specs.ApplyEvents.{Applies, NoApply}
use Rattle.rmt_events.specs.LogEvents.{MergesParts, NoMerge, MutatesPart, NoMutate, DropsNothing}
use Rattle.rmt_events.specs.declared.event.Event.{Event}
use Rattle.rmt_events.specs.declared.reply.Reply.{Reply}
use Rattle.rmt_events.specs.declared.step_refused.StepRefused.{StepRefused}
use Rattle.rmt_events.specs.declared.event.Event.TheVariants as ev
use Rattle.rmt_events.specs.declared.reply.Reply.TheVariants as rp
use Rattle.rmt_events.specs.declared.step_refused.StepRefused.TheVariants as rf

-- ---- Pull

-- the replica copies the rest of the log
pub record PullsLog (s : Cluster) (k : ℕ) (reply : Reply) (t : Cluster) : Type 0 where
  pub at : AtReplica s k (λ x y. Pulls x s.table.log y) t
  pub answer : reply ≡ rp.Pulled (length s.table.log)

-- why nothing is pulled
abbrev pub NoPull : Cluster → ℕ → StepRefused → Type 0
NoPull s k rf.Down = IsDown s k
NoPull s k why = ⊥

-- ---- Note

-- a replica that is up notes the part that waits for its quorum, and the table has its note
pub record NotesPending (s : Cluster) (k : ℕ) (reply : Reply) (t : Cluster) : Type 0 where
  pub old : Replica
  pub new : Replica
  pub is : IsUp s k old
  pub waiting : Pending
  pub waits : s.table.quorum.pending ≡ Some waiting
  pub notes : NotesPart old waiting.part new
  pub table : Table
  pub call : Notes s.table k table
  pub answer : reply ≡ rp.Noted true
  pub change : t ≡ record s { table = table; replicas = with_replica s.replicas k new }

-- a replica that is up has no active part that covers one that waits for its quorum
pub record NotesNothing (s : Cluster) (k : ℕ) (reply : Reply) (t : Cluster) : Type 0 where
  pub replica : Replica
  pub is : IsUp s k replica
  pub none : (q : Pending) → s.table.quorum.pending ≡ Some q → CoveredBy (names_of replica.parts) q.part → ⊥
  pub answer : reply ≡ rp.Noted false
  pub unchanged : t ≡ s

-- why nothing is noted
abbrev pub NoNote : Cluster → ℕ → StepRefused → Type 0
NoNote s k rf.Down = IsDown s k
NoNote s k why = ⊥

-- ---- Kill, Restart, Fetches

-- a session ends, and its replica is down
pub record Kills (s : Cluster) (k : ℕ) (reply : Reply) (t : Cluster) : Type 0 where
  pub old : Replica
  pub new : Replica
  pub at : IsNumbered s k old
  pub dies : GoesDown old new
  pub table : Table
  pub closes : Closes s.table k table
  pub answer : reply ≡ rp.Done
  pub change : t ≡ record s { table = table; replicas = with_replica s.replicas k new }

-- a session ends if it is open, another one begins, and the replica is up
pub record Restarts (s : Cluster) (k : ℕ) (reply : Reply) (t : Cluster) : Type 0 where
  pub old : Replica
  pub new : Replica
  pub at : IsNumbered s k old
  pub wakes : ComesUp old new
  pub closed : Table
  pub closes : Closes s.table k closed
  pub table : Table
  pub opens : Opens closed k table
  pub answer : reply ≡ rp.Done
  pub change : t ≡ record s { table = table; replicas = with_replica s.replicas k new }

-- a replica may fetch, or may not
pub record Switches (s : Cluster) (k : ℕ) (allowed : Bool) (reply : Reply) (t : Cluster) : Type 0 where
  pub old : Replica
  pub at : IsNumbered s k old
  pub answer : reply ≡ rp.Done
  pub change : t ≡ cluster_with s k (record old { fetches = allowed })

-- ---- each event

-- what an event does, apart from being stored
abbrev pub Does : Cluster → Event → Reply → Cluster → Type 0
Does s (ev.Allocate k b need) reply t =
    BeginsAttempt s k (without_kinds (arc_value b)) need reply t ⊎ Declines s (NoNumber s.table k (arc_value b).partition (arc_value b).digest need) reply t
Does s (ev.Again id) reply t = RenewsAttempt s id reply t ⊎ Declines s (NoOther s id) reply t
Does s (ev.Stage id) reply t = StagesAttempt s id reply t ⊎ Declines s (NoStage s id) reply t
Does s (ev.Commit id) reply t = AcceptsBlock s id reply t ⊎ (LosesAttempt s id reply t ⊎ Declines s (NoCommit s id) reply t)
Does s (ev.Abandon id) reply t = (EndsAttempt s id t × (reply ≡ rp.Done)) ⊎ Declines s (NoEnd s id) reply t
Does s (ev.Pull k) reply t = PullsLog s k reply t ⊎ Declines s (NoPull s k) reply t
Does s (ev.Apply k i) reply t = Applies s k i reply t ⊎ Declines s (NoApply s k i) reply t
Does s (ev.Merge k sources) reply t = MergesParts s k sources reply t ⊎ Declines s (NoMerge s k sources) reply t
Does s (ev.Mutate k part upto) reply t = MutatesPart s k part upto reply t ⊎ Declines s (NoMutate s k part upto) reply t
Does s (ev.CreateMutation command) reply t = Appends s (λ u v. CreatesMutation u command v) reply t ⊎ Declines s (NoMutation s.table) reply t
Does s (ev.DropPartition p) reply t = ((n : ℕ) × Appends s (λ u v. DropsPartition u p n v) reply t) ⊎ (DropsNothing s p reply t ⊎ Declines s (NoDrop s.table p) reply t)
Does s (ev.Kill k) reply t = Kills s k reply t
Does s (ev.Restart k) reply t = Restarts s k reply t
Does s (ev.Note k) reply t = NotesPending s k reply t ⊎ (NotesNothing s k reply t ⊎ Declines s (NoNote s k) reply t)
Does s (ev.Fetches k allowed) reply t = Switches s k allowed reply t

-- one event, which is stored with its reply
pub record Step (s : Cluster) (e : Event) (reply : Reply) (t : Cluster) : Type 0 where
  pub after : Cluster
  pub does : Does s e reply after
  pub stored : t ≡ record after { events = (e, reply) ∷ after.events }

-- events with their replies, the newest first, lead from one state to another
abbrev pub After : Cluster → List (Event × Reply) → Cluster → Type 0
After s [] t = t ≡ s
After s (x ∷ rest) t = (mid : Cluster) × After s rest mid × Step mid x.0 x.1 t
