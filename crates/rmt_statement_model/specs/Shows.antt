-- A cluster shows the state of a table: it has the same log, numbers and blocks, and what is known at a replica holds there.
-- No public source: this program's own.
use Rattle.std.specs.Prelude.{◌≡◌, ℕ, ◌≤◌, cond, nat_eq, Bool, true, false, List, [], ◌∷◌, length, OnOk}
use Rattle.std.specs.declared.result.Result.{Result}
use Rattle.rmt_model.specs.Words.{Has}
use Rattle.rmt_model.specs.Fair.{AreFair}
use Rattle.rmt_model.specs.CopiedParts.{names_of}
use Rattle.rmt_model.specs.Quorum.{quorum_after_note}
use Rattle.rmt_events.specs.Views.{Replica, Table}
use Rattle.rmt_events.specs.Clusters.{Cluster, accepted}
use Rattle.rmt_events.specs.ClusterChanges.{IsNumbered, KeepsTable}
use Rattle.rmt_events.specs.ReplicaCalls.{IsDrained}
use Rattle.rmt_statement_model.specs.TableStates.{TableState}

-- what is known at a replica is within its copy of the log, and its parts are fair for it
pub record Knows (x : Replica) (known : ℕ → Bool) : Type 0 where
  pub within : (i : ℕ) → length x.log ≤ i → known i ≡ false
  pub fair : AreFair x.log known (names_of x.parts)

-- each replica knows what is known there
abbrev pub EachKnows : List Replica → (ℕ → ℕ → Bool) → Type 0
EachKnows replicas known = (x : Replica) → Has replicas x → Knows x (known x.number)

-- whether the replica of a number may fetch; one that isn't there may
abbrev pub fetching_at : List Replica → ℕ → Bool
fetching_at [] k = true
fetching_at (x ∷ others) k = cond (nat_eq x.number k) x.fetches (fetching_at others k)

-- which replicas of a cluster may fetch
abbrev pub fetching_of : Cluster → ℕ → Bool
fetching_of s k = fetching_at s.replicas k

-- a table with these replicas is in this state, whatever blocks were accepted
pub record ShowsTable (table : Table) (replicas : List Replica) (t : TableState) : Type 0 where
  pub schema : t.schema ≡ table.schema
  pub log : t.log ≡ table.log
  pub next : t.next ≡ table.next
  pub quorum : t.quorum ≡ table.quorum
  pub fetching : t.fetching ≡ fetching_at replicas
  pub knows : EachKnows replicas t.known

-- the cluster has the table in this state
pub record Shows (s : Cluster) (t : TableState) : Type 0 where
  pub table : ShowsTable s.table s.replicas t
  pub blocks : t.blocks ≡ accepted s

-- whether the replica of a number is up; one that isn't there isn't
abbrev pub up_at : List Replica → ℕ → Bool
up_at [] k = false
up_at (x ∷ others) k = cond (nat_eq x.number k) x.up (up_at others k)

-- which replicas of a cluster are up
abbrev pub ups : Cluster → ℕ → Bool
ups s k = up_at s.replicas k

-- whatever came of it the schema stays and no replica comes or goes; where it was done, those are up that were up
pub record KeepsUps {A E : Type 0} (s : Cluster) (r : Result A E) (t : Cluster) : Type 0 where
  pub table : KeepsTable s t
  pub ups : OnOk r (ups t ≡ ups s)

-- the replica of a number may fetch, has the whole log, has done all of it, and is noted where a part waits for its quorum
pub record IsUpToDate (s : Cluster) (k : ℕ) : Type 0 where
  pub replica : Replica
  pub at : IsNumbered s k replica
  pub whole : replica.log ≡ s.table.log
  pub drained : IsDrained replica
  pub allowed : replica.fetches ≡ true
  pub noted : quorum_after_note k s.table.quorum ≡ s.table.quorum

-- the cluster shows a state of which this holds
pub record Leads (s : Cluster) (Holds : TableState → Type 0) : Type 0 where
  pub state : TableState
  pub holds : Holds state
  pub shows : Shows s state

-- no insert holds a number
abbrev pub HoldsNone : Cluster → Type 0
HoldsNone s = s.table.locks ≡ []

-- the replica of a number is up, and no insert is under way
pub record IsIdle (s : Cluster) (r : ℕ) : Type 0 where
  pub up : ups s r ≡ true
  pub free : HoldsNone s
