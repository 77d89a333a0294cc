-- What bringing a replica up to date comes to. No public clause but those of `sync_replica` cites this module.
use Rattle.std.specs.Prelude.{◌≡◌, ℕ, true, List, IsErr}
use Rattle.std.specs.declared.option.Option.{Option}
use Rattle.std.specs.declared.option.Option.TheVariants.{Some, None}
use Rattle.std.specs.declared.result.Result.{Result}
use Rattle.std.specs.declared.result.Result.TheVariants.{Ok}
use Rattle.std.specs.declared.alloc.AllocError.{AllocError}
use Rattle.rmt_entries.specs.declared.entry.Entry.TheVariants.{Get}
use Rattle.rmt_model.specs.Lawful.{entry_at}
use Rattle.rmt_queue.specs.Marks.{done_at}
use Rattle.rmt_events.specs.Views.{Replica}
use Rattle.rmt_events.specs.Clusters.{Cluster}
use Rattle.rmt_events.specs.ClusterChanges.{IsNumbered}
use Rattle.rmt_cluster.specs.declared.sync_error.SyncError.{SyncError}
use Rattle.rmt_cluster.specs.declared.sync_error.SyncError.TheVariants as errors
use Rattle.rmt_reply.specs.declared.refusal.Refusal.{Refusal}
use Rattle.rmt_reply.specs.declared.refusal.Refusal.TheVariants.{NoSource}
use Rattle.rmt_statement_model.specs.TableStates.{TableState, synced}
use Rattle.rmt_statement_model.specs.LostSources.{LacksSource}
use Rattle.rmt_statement_model.specs.Shows.{IsUpToDate, Leads, Shows, ups}

-- the replica is up to date, whatever state the cluster showed
pub record IsSynced (s : Cluster) (r : ℕ) (u : Cluster) : Type 0 where
  pub shows : (t : TableState) → Shows s t → Shows u (synced r t)
  pub whole : IsUpToDate u r

-- the replica is up to date, or lacks a part
abbrev pub SyncsReplica : Cluster → ℕ → Option Refusal → Cluster → Type 0
SyncsReplica s r None u = IsSynced s r u
SyncsReplica s r (Some refusal) u = (t : TableState) → Shows s t → Leads u (LacksSource (ups s) t r refusal)

-- of the table nothing changes but its quorum
abbrev pub KeepsButQuorum : Cluster → Cluster → Type 0
KeepsButQuorum s u = u.table ≡ record s.table { quorum = u.table.quorum }

-- ---- what only private functions cite

-- a statement's refusal tells why a sync ended, or no memory was left
abbrev pub IsToldAs : SyncError → Result (Option Refusal) AllocError → Type 0
IsToldAs (errors.NoSource part source) result = result ≡ Ok (Some (NoSource part source))
IsToldAs errors.Memory result = IsErr result
IsToldAs errors.ReplicaDown result = ⊥
IsToldAs errors.FetchesStopped result = ⊥

-- the replica may fetch, and has done each Get of the log
abbrev pub HasDoneGets : Cluster → ℕ → Type 0
HasDoneGets s r = (x : Replica) → IsNumbered s r x → (x.fetches ≡ true) × ((i : ℕ) (p : Option ℕ) (n source need : ℕ) (digest : List ℕ) → entry_at s.table.log i ≡ Some (Get p n digest source need) → done_at x.done i ≡ true)
