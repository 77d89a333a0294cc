-- How replicas come under their locks, and what is compared once no other thread has a crew. No public clause cites this module.
-- No public source: the locks are this program's own.
use Rattle.std.specs.Prelude.{◌≡◌, ◌<◌, ◌≤◌, ℕ, suc, List, [], ◌∷◌, length}
use Rattle.rmt_model.specs.Words.{Each}
use Rattle.rmt_model.specs.Lawful.{IsPrefix, Lawful}
use Rattle.rmt_events.specs.Views.{Block}
use Rattle.rmt_table_model.specs.Held.{Held}
use Rattle.rmt_replica.specs.Replicas.{ReplicaView}
use Rattle.rmt_replica.specs.ReplicaRows.{IsReplicaOfRow}
use Rattle.rmt_statement_model.specs.TableStates.{TableState}
use Rattle.rmt_clients.specs.Clients.{Client, StepsTo}
use Rattle.rmt_readings.specs.Readable.{HasKnown}
use Rattle.rmt_state.specs.States.{IsState, StateView, AreNumbered, Belongs}
use Rattle.rmt_shared.specs.ClientCalls.{HasTable}
use Rattle.rmt_shared.specs.SharedTables.{HasBlocks, NamedTable, name_at, named}
use Rattle.rmt_shared.specs.SharedReplicas.{HoldsOnly, IsNumber, StagesFitting}
use Rattle.rmt_pass.specs.Passes.{IsKnownOf, KeepsOthers, PassView, SeesAs, client_at, known_at, up_in}
use Rattle.rmt_pass.specs.InsertSteps.{AreOpen}
use Rattle.rmt_workers.specs.Crews.{Saw}
use Rattle.rmt_workers.specs.Closing.{IsAtRestReplica}

-- this is so of each element and its place, where the first one is at place k
abbrev pub EachFrom : {A : Type 0} → (ℕ → A → Type 0) → ℕ → List A → Type 0
EachFrom P k [] = Unit {0}
EachFrom P k (x ∷ xs) = P k x × EachFrom P (suc k) xs

-- ---- the beginning

-- the replica may go under a lock as one of so many of this table, to which these blocks are offered
pub record MayShare (name : NamedTable) (count : ℕ) (Offered : Block → Type 0) (r : ReplicaView) : Type 0 where
  pub number : IsNumber r.number count
  pub few : length r.log ≤ 65536
  pub schema : r.schema ≡ name.schema
  pub row : IsReplicaOfRow name.row r
  pub blocks : HoldsOnly Offered r
  pub fitting : StagesFitting name.schema r

-- so may the replicas of the table at a place
abbrev pub MayShareAt : List NamedTable → ℕ → (ℕ → Block → Type 0) → ℕ → StateView → Type 0
MayShareAt names count Offered k s = Each (MayShare (name_at names k) count (Offered k)) s.replicas

-- ---- the end

-- the client knows the table at a place as it is; it is the one that is named, and just the replicas that are up have a session there
pub record IsSettled (names : List NamedTable) (count : ℕ) (Offered : ℕ → Block → Type 0) (p : PassView) (k : ℕ) (h : Held) : Type 0 where
  pub named_is : named h ≡ name_at names k
  pub count_is : length h.sessions ≡ count
  pub blocks : HasBlocks (Offered k) h
  pub sees : SeesAs (client_at p k) h
  pub sessions : AreOpen (up_in p.up) h

-- so it is of the table at a place, which is there
pub record IsSettledAt (names : List NamedTable) (count : ℕ) (Offered : ℕ → Block → Type 0) (p : PassView) (k : ℕ) (tables : List Held) : Type 0 where
  pub there : k < length tables
  pub has : HasTable tables k (IsSettled names count Offered p k)

-- the client has seen the table at a place, which is so now, and no other table changed
pub record Settles (names : List NamedTable) (count : ℕ) (Offered : ℕ → Block → Type 0) (old : PassView) (k : ℕ) (new : PassView) (tables now : List Held) : Type 0 where
  pub saw : Saw old k new
  pub settled : IsSettledAt names count Offered new k now
  pub others : KeepsOthers tables k now

-- the client has seen the tables up to a place, and knows of the others what it knew
pub record SeesTo (Offered : ℕ → Block → Type 0) (old : PassView) (end : ℕ) (new : PassView) : Type 0 where
  pub count_is : length new.tables ≡ length old.tables
  pub up : new.up ≡ old.up
  pub seen : (k : ℕ) → k < end → StepsTo (Offered k) (client_at old k) (λ t u. u ≡ t) (client_at new k)
  pub unseen : (k : ℕ) → end ≤ k → client_at new k ≡ client_at old k

-- the tables up to a place are settled
pub record SettlesTo (names : List NamedTable) (count : ℕ) (Offered : ℕ → Block → Type 0) (old : PassView) (end : ℕ) (new : PassView) (tables : List Held) : Type 0 where
  pub sees : SeesTo Offered old end new
  pub settled : (k : ℕ) → k < end → IsSettledAt names count Offered new k tables

-- the replica's copy of the log is a prefix of the client's, and its active parts have all that the client knows to be there
pub record HasAllKnown (p : Client) (r : ReplicaView) : Type 0 where
  pub prefix : IsPrefix r.log p.log
  pub known : HasKnown p r

-- the replica of a number of this table is as the client knows it
pub record IsTakenBack (Offered : ℕ → Block → Type 0) (p : PassView) (k : ℕ) (tree : Held) (number : ℕ) (r : ReplicaView) : Type 0 where
  pub belongs : Belongs tree number r
  pub at_rest : IsAtRestReplica (Offered k) p.up (known_at p k) tree r

-- so are replicas that are numbered from 1
pub record AreTakenBack (Offered : ℕ → Block → Type 0) (p : PassView) (k : ℕ) (tree : Held) (rs : List ReplicaView) : Type 0 where
  pub numbered : AreNumbered tree 1 rs
  pub at_rest : Each (IsAtRestReplica (Offered k) p.up (known_at p k) tree) rs

-- the table at a place is settled, and all its replicas are as the client knows them
pub record IsHandedBack (names : List NamedTable) (count : ℕ) (Offered : ℕ → Block → Type 0) (p : PassView) (k : ℕ) (s : StateView) : Type 0 where
  pub settled : IsSettled names count Offered p k s.tree
  pub lawful : Lawful s.tree.schema s.tree.log
  pub of : IsKnownOf count (name_at names k) (known_at p k)
  pub all : length s.replicas ≡ count
  pub replicas : AreTakenBack Offered p k s.tree s.replicas
