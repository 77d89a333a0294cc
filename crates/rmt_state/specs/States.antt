-- A table with its replicas: what always holds of them beside each other, and what an event does to them.
-- ClickHouse documentation, Data Replication: each replica copies the log of its table. That replicas are numbered from 1 is
-- this program's own.
use Rattle.std.specs.Prelude.{◌≡◌, ℕ, ◌+◌, ◌-◌, ◌≤◌, List, [], ◌∷◌, length, map, slice_get, slice_set}
use Rattle.std.specs.declared.option.Option.{Option}
use Rattle.std.specs.declared.option.Option.TheVariants.{Some}
use Rattle.std.specs.declared.result.Result.{Result}
use Rattle.rmt_model.specs.Words.{Has}
use Rattle.rmt_table_model.specs.Held.{Held}
use Rattle.rmt_table.specs.TableTrees.{table_at, IsCopyOf}
use Rattle.rmt_replica.specs.Replicas.{ReplicaView, copy_of}
use Rattle.rmt_replica.specs.Answers.{IsAnswer, IsChange}
use Rattle.rmt_replica.specs.declared.supply.Supply.{Supply}
use Rattle.rmt_events.specs.declared.applied.Applied.{Applied}
use Rattle.rmt_replica.specs.declared.apply_error.ApplyError.{ApplyError}
use Rattle.rmt_replica.specs.SeenReplica.{shown}
use Rattle.rmt_events.specs.Views.{Block, Replica}
use Rattle.rmt_events.specs.Clusters.{Attempt, Cluster, with_replica}
use Rattle.rmt_events.specs.ClusterChanges.{IsNumbered, AtReplica, IsDown}
use Rattle.rmt_events.specs.ReplicaCalls.{IsStaged}
use Rattle.rmt_events.specs.Steps.{Does}
use Rattle.rmt_events.specs.declared.event.Event.{Event}
use Rattle.rmt_events.specs.declared.reply.Reply.{Reply}

-- a table with its tree, and its replicas in the order of their numbers
pub record StateView : Type 0 where
  pub tree : Held
  pub replicas : List ReplicaView

-- the replica has this number, and its copy is one of the table's log
pub record Belongs (tree : Held) (number : ℕ) (r : ReplicaView) : Type 0 where
  pub numbered : r.number ≡ number
  pub copy : IsCopyOf tree (copy_of r)

-- replicas of the table that are numbered from this number on
abbrev pub AreNumbered : Held → ℕ → List ReplicaView → Type 0
AreNumbered tree k [] = Unit {0}
AreNumbered tree k (r ∷ rest) = Belongs tree k r × AreNumbered tree (k + 1) rest

-- the replica of a number
pub record IsWorkerAt (s : StateView) (k : ℕ) (r : ReplicaView) : Type 0 where
  pub is_in : Has s.replicas r
  pub numbered : r.number ≡ k

-- the replicas are those of the table, numbered from 1
pub record IsState (s : StateView) : Type 0 where
  pub all : length s.replicas ≡ length s.tree.sessions
  pub numbered : AreNumbered s.tree 1 s.replicas

-- how many numbers the partitions have given
abbrev pub numbers_given : List (Option ℕ × ℕ) → ℕ
numbers_given [] = 0
numbers_given (x ∷ rest) = x.1 + numbers_given rest

-- replicas are numbered from 1 up to their count
pub record IsNumber (k count : ℕ) : Type 0 where
  pub first : 1 ≤ k
  pub last : k ≤ count

-- the replica of a number looks at the entry at a place with what is supplied, answers so, and nothing else changes
pub record AppliesAt (s : StateView) (k i : ℕ) (supply : Supply) (answer : Result Applied ApplyError) (t : StateView) : Type 0 where
  pub old : ReplicaView
  pub new : ReplicaView
  pub at : slice_get s.replicas (k - 1) ≡ Some old
  pub answers : IsAnswer old i supply answer
  pub changes : IsChange old i supply answer new
  pub rest : t ≡ record s { replicas = slice_set s.replicas (k - 1) new }

-- ---- as a cluster

-- the cluster of the state, with these attempts and events beside it
abbrev pub cluster_of : StateView → ℕ → List Attempt → List (Event × Reply) → Cluster
cluster_of s made attempts events = record {
  table = table_at s.tree;
  replicas = map shown s.replicas;
  attempts_made = made;
  attempts = attempts;
  events = events;
}

-- an event that touches no attempt was done, whatever attempts and events there are
abbrev pub Acts : StateView → Event → Reply → StateView → Type 0
Acts s event reply t = (made : ℕ) (attempts : List Attempt) (events : List (Event × Reply)) → Does (cluster_of s made attempts events) event reply (cluster_of t made attempts events)

-- the replica of a number, which is up, does something, whatever attempts and events there are
abbrev pub ActsAt : StateView → ℕ → (Replica → Replica → Type 0) → StateView → Type 0
ActsAt s k D t = (made : ℕ) (attempts : List Attempt) (events : List (Event × Reply)) → AtReplica (cluster_of s made attempts events) k D (cluster_of t made attempts events)

-- the replica of a number is down, whatever attempts and events there are
abbrev pub IsDownIn : StateView → ℕ → Type 0
IsDownIn s k = (made : ℕ) (attempts : List Attempt) (events : List (Event × Reply)) → IsDown (cluster_of s made attempts events) k

-- the replica of a number, up or down, does something, and the table stays
pub record ChangesAt (s : StateView) (k : ℕ) (D : Replica → Replica → Type 0) (t : StateView) : Type 0 where
  pub old : Replica
  pub new : Replica
  pub at : (made : ℕ) (attempts : List Attempt) (events : List (Event × Reply)) → IsNumbered (cluster_of s made attempts events) k old
  pub does : D old new
  pub change : map shown t.replicas ≡ with_replica (map shown s.replicas) k new
  pub table : t.tree ≡ s.tree

-- this block is staged at the replica of a number
pub record HasBlockAt (s : StateView) (k : ℕ) (p : Option ℕ) (n : ℕ) (b : Block) : Type 0 where
  pub replica : Replica
  pub at : (made : ℕ) (attempts : List Attempt) (events : List (Event × Reply)) → IsNumbered (cluster_of s made attempts events) k replica
  pub staged : IsStaged replica p n b

-- some block is staged there under the number
abbrev pub HasSomeBlockAt : StateView → ℕ → Option ℕ → ℕ → Type 0
HasSomeBlockAt s k p n = (b : Block) × HasBlockAt s k p n b
