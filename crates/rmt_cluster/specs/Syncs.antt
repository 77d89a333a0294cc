-- A replica that is brought to the whole log.
-- ClickHouse documentation, SYSTEM SYNC REPLICA: waits until a replica has done all entries of the log. That a sync is refused
-- where a part can't be had is this program's own.
use Rattle.std.specs.Prelude.{◌≡◌, ◌⊎◌, ℕ, ◌+◌, ◌<◌, ◌≤◌, Bool, true, false, List, [], ◌∷◌, length, MatchOption}
use Rattle.std.specs.declared.option.Option.{Option}
use Rattle.std.specs.declared.option.Option.TheVariants.{Some, None}
use Rattle.std.specs.declared.result.Result.{Result}
use Rattle.std.specs.declared.result.Result.TheVariants.{Ok, Err}
use Rattle.rmt_names.specs.Names.{Name}
use Rattle.rmt_entries.specs.declared.entry.Entry.{Entry}
use Rattle.rmt_entries.specs.declared.entry.Entry.TheVariants.{Get}
use Rattle.rmt_model.specs.Lawful.{entry_at}
use Rattle.rmt_model.specs.Quorum.{quorum_after_note}
use Rattle.rmt_queue.specs.Marks.{done_at}
use Rattle.rmt_events.specs.Views.{Replica}
use Rattle.rmt_events.specs.Clusters.{Cluster}
use Rattle.rmt_events.specs.ClusterChanges.{IsNumbered, IsUp, IsDown}
use Rattle.rmt_events.specs.ApplyEvents.{WaitsAt, LacksPart}
use Rattle.rmt_events.specs.Steps.{Step, After}
use Rattle.rmt_events.specs.Whole.{IsWhole}
use Rattle.rmt_events.specs.declared.event.Event.{Event}
use Rattle.rmt_events.specs.declared.event.Event.TheVariants as ev
use Rattle.rmt_events.specs.declared.reply.Reply.{Reply}
use Rattle.rmt_events.specs.declared.reply.Reply.TheVariants as rp
use Rattle.rmt_events.specs.declared.step_refused.StepRefused.TheVariants as rf
use Rattle.rmt_cluster.specs.Clusters.{Stops}
use Rattle.rmt_cluster.specs.declared.sync_error.SyncError.{SyncError}
use Rattle.rmt_cluster.specs.declared.sync_error.SyncError.TheVariants as errors

-- the entry at a place of the replica's copy isn't done
pub record IsPendingAt (s : Cluster) (k i : ℕ) : Type 0 where
  pub replica : Replica
  pub at : IsNumbered s k replica
  pub pending : done_at replica.done i ≡ false

-- these events, the latest first, are of entries that the replica looked at: they were pending in this cluster, and their places
-- rise, below this one
abbrev pub AreApplied : Cluster → ℕ → ℕ → List (Event × Reply) → Type 0
AreApplied s k below [] = Unit {0}
AreApplied s k below ((ev.Apply r i, reply) ∷ earlier) = (r ≡ k) × (i < below) × IsPendingAt s k i × AreApplied s k i earlier
AreApplied s k below (x ∷ earlier) = ⊥

-- the replica pulled, once, and then looked at entries that were pending after the pull, each at most once
pub record Drains (s : Cluster) (k : ℕ) (t : Cluster) : Type 0 where
  pub pulled : Cluster
  pub reply : Reply
  pub pulls : Step s (ev.Pull k) reply pulled
  pub events : List (Event × Reply)
  pub made : After pulled events t
  pub applied : AreApplied pulled k (length pulled.table.log) events

-- it did so, and then noted the part that waits for its quorum, or found nothing to note
pub record Syncs (s : Cluster) (k : ℕ) (t : Cluster) : Type 0 where
  pub drained : Cluster
  pub drains : Drains s k drained
  pub reply : Reply
  pub notes : Step drained (ev.Note k) reply t

-- the replica is up and may fetch, has the whole log, and has done all entries below a place
pub record HasDone (s : Cluster) (k i : ℕ) : Type 0 where
  pub replica : Replica
  pub is : IsUp s k replica
  pub allowed : replica.fetches ≡ true
  pub whole : replica.log ≡ s.table.log
  pub done : (j : ℕ) → j < i → done_at replica.done j ≡ true

-- the first entry that isn't done at the replica is a Get that waits for its part, which it can have from nowhere, and the Get's
-- source is down
pub record LacksSource (s : Cluster) (k : ℕ) (a : Name) (source : ℕ) : Type 0 where
  pub place : ℕ
  pub partition : Option ℕ
  pub number : ℕ
  pub need : ℕ
  pub digest : List ℕ
  pub before : HasDone s k place
  pub waits : WaitsAt s k place before.replica (Get partition number digest source need)
  pub lacks : LacksPart s k before.replica (Get partition number digest source need) a
  pub down : IsDown s source

-- a sync ended at the first entry whose part the replica lacks; the entry was pending after the pull
pub record EndsLacking (s : Cluster) (k : ℕ) (a : Name) (source : ℕ) (t : Cluster) : Type 0 where
  pub drains : Drains s k t
  pub source_lost : LacksSource t k a source
  pub pending : IsPendingAt drains.pulled k source_lost.place

-- the pull is refused, since the replica is down
pub record IsRefused (s : Cluster) (k : ℕ) (t : Cluster) : Type 0 where
  pub down : IsDown s k
  pub refused : Step s (ev.Pull k) (rp.Refused rf.Down) t

-- the replica is up, and its fetches are stopped
pub record IsStopped (s : Cluster) (k : ℕ) : Type 0 where
  pub replica : Replica
  pub is : IsUp s k replica
  pub stopped : replica.fetches ≡ false

-- no memory was left for an entry
pub record StopsEarly (s : Cluster) (k : ℕ) (t : Cluster) : Type 0 where
  pub mid : Cluster
  pub entry : ℕ
  pub drains : Drains s k mid
  pub stops : Stops mid (ev.Apply k entry) t

-- no memory was left for the note, and all entries are done
pub record StopsLast (s : Cluster) (k : ℕ) (t : Cluster) : Type 0 where
  pub mid : Cluster
  pub drains : Drains s k mid
  pub done : HasDone mid k (length mid.table.log)
  pub stops : Stops mid (ev.Note k) t

-- what the pull and the entries of a sync came to
abbrev pub DrainsTo : Cluster → ℕ → Result (Unit {0}) SyncError → Cluster → Type 0
DrainsTo s k (Ok u) t = Drains s k t × HasDone t k (length t.table.log)
DrainsTo s k (Err errors.ReplicaDown) t = IsRefused s k t
DrainsTo s k (Err errors.FetchesStopped) t = ⊥
DrainsTo s k (Err (errors.NoSource part source)) t = EndsLacking s k part source t
DrainsTo s k (Err errors.Memory) t = Stops s (ev.Pull k) t ⊎ StopsEarly s k t

-- a part that waited for its quorum before is noted by the replica
abbrev pub IsNotedBy : Cluster → ℕ → Cluster → Type 0
IsNotedBy s k t = t.table ≡ record s.table { quorum = quorum_after_note k s.table.quorum }

-- what a sync came to: where it is done, the replica has done all of the log, and is noted where a part waits for its quorum
abbrev pub SyncsTo : Cluster → ℕ → Result (Unit {0}) SyncError → Cluster → Type 0
SyncsTo s k (Ok u) t = Syncs s k t × HasDone t k (length t.table.log) × IsNotedBy s k t
SyncsTo s k (Err errors.ReplicaDown) t = IsRefused s k t
SyncsTo s k (Err errors.FetchesStopped) t = IsStopped s k × (t ≡ s)
SyncsTo s k (Err (errors.NoSource part source)) t = EndsLacking s k part source t
SyncsTo s k (Err errors.Memory) t = Stops s (ev.Pull k) t ⊎ (StopsEarly s k t ⊎ StopsLast s k t)

-- the source of each Get of the log is up
abbrev pub SourcesAreUp : Cluster → Type 0
SourcesAreUp s = (i : ℕ) (p : Option ℕ) (n source need : ℕ) (digest : List ℕ) → entry_at s.table.log i ≡ Some (Get p n digest source need) → IsDown s source → ⊥

-- it is done, or no memory was left
abbrev pub IsDoneOrStopped : Result (Unit {0}) SyncError → Type 0
IsDoneOrStopped (Ok u) = Unit {0}
IsDoneOrStopped (Err errors.Memory) = Unit {0}
IsDoneOrStopped (Err errors.FetchesStopped) = ⊥
IsDoneOrStopped (Err errors.ReplicaDown) = ⊥
IsDoneOrStopped (Err (errors.NoSource part source)) = ⊥

-- ---- what only private functions cite

-- the first place from one on that isn't done at a replica
pub record IsNextAt (x : Replica) (from i : ℕ) : Type 0 where
  pub from_on : from ≤ i
  pub within : i < length x.log
  pub pending : done_at x.done i ≡ false
  pub passed : (j : ℕ) → from ≤ j → j < i → done_at x.done j ≡ true

abbrev pub IsNext : Replica → ℕ → Option ℕ → Type 0
IsNext x from next = MatchOption next ((j : ℕ) → from ≤ j → j < length x.log → done_at x.done j ≡ true) (IsNextAt x from)

-- the next entry of a sync, after those below a place; none where all are done
pub record IsNextDone (s : Cluster) (k from i : ℕ) : Type 0 where
  pub from_on : from ≤ i
  pub within : i < length s.table.log
  pub done : HasDone s k i
  pub pending : done_at done.replica.done i ≡ false

abbrev pub IsNextEntry : Cluster → ℕ → ℕ → Option ℕ → Type 0
IsNextEntry s k from next = MatchOption next (HasDone s k (length s.table.log)) (IsNextDone s k from)

-- the replica may fetch, where it is up
abbrev pub MayFetchAt : Cluster → ℕ → Type 0
MayFetchAt s k = (x : Replica) → IsUp s k x → x.fetches ≡ true

-- the replica has pulled the whole log
pub record PullsAll (s : Cluster) (k : ℕ) (t : Cluster) : Type 0 where
  pub reply : Reply
  pub pulls : Step s (ev.Pull k) reply t
  pub whole : IsWhole t
  pub done : HasDone t k 0

-- what the pull of a sync came to
abbrev pub PullsFor : Cluster → ℕ → Result (Unit {0}) SyncError → Cluster → Type 0
PullsFor s k (Ok u) t = PullsAll s k t
PullsFor s k (Err errors.ReplicaDown) t = IsRefused s k t
PullsFor s k (Err errors.FetchesStopped) t = ⊥
PullsFor s k (Err (errors.NoSource part source)) t = ⊥
PullsFor s k (Err errors.Memory) t = Stops s (ev.Pull k) t

-- the marks of the replica after a place are as they were
abbrev pub KeepsLater : Cluster → ℕ → ℕ → Cluster → Type 0
KeepsLater s k i t = (x y : Replica) → IsNumbered s k x → IsNumbered t k y → (j : ℕ) → i < j → done_at y.done j ≡ done_at x.done j

-- the replica has done the entry at a place
pub record DoesEntry (s : Cluster) (k i : ℕ) (t : Cluster) : Type 0 where
  pub reply : Reply
  pub step : Step s (ev.Apply k i) reply t
  pub done : HasDone t k (i + 1)
  pub later : KeepsLater s k i t

-- the replica can't do the entry at a place
pub record CantDo (s : Cluster) (k i : ℕ) (a : Name) (source : ℕ) (t : Cluster) : Type 0 where
  pub reply : Reply
  pub step : Step s (ev.Apply k i) reply t
  pub source_lost : LacksSource t k a source
  pub there : source_lost.place ≡ i

-- what the next entry of a sync came to
abbrev pub DoesNext : Cluster → ℕ → ℕ → Result (Unit {0}) SyncError → Cluster → Type 0
DoesNext s k i (Ok u) t = DoesEntry s k i t
DoesNext s k i (Err errors.ReplicaDown) t = ⊥
DoesNext s k i (Err errors.FetchesStopped) t = ⊥
DoesNext s k i (Err (errors.NoSource part source)) t = CantDo s k i part source t
DoesNext s k i (Err errors.Memory) t = Stops s (ev.Apply k i) t

-- the replica, which has done the whole log, notes the part that waits for its quorum, or no memory was left for that
abbrev pub NotesFor : Cluster → ℕ → Result (Unit {0}) SyncError → Cluster → Type 0
NotesFor s k (Ok u) t = ((reply : Reply) × Step s (ev.Note k) reply t) × HasDone t k (length t.table.log) × IsNotedBy s k t
NotesFor s k (Err errors.Memory) t = Stops s (ev.Note k) t
NotesFor s k (Err e) t = ⊥

-- whether a reply says that the log was pulled
abbrev pub pulled : Reply → Bool
pulled (rp.Pulled n) = true
pulled reply = false

-- the part that a reply says is missing
abbrev pub missing : Reply → Option Name
missing (rp.Refused (rf.NeedsPart a)) = Some a
missing reply = None

-- the source of a Get; 0 for other entries
abbrev pub source_of : Entry → ℕ
source_of (Get p n digest source need) = source
source_of e = 0
