-- Words that several events share: which replica or attempt is meant, and what of a cluster changes.
-- No public source: that an event makes one call and changes nothing else is this program's own.
use Rattle.std.specs.Prelude.{◌≡◌, ℕ, true, false, not, cond, nat_eq, List, [], ◌∷◌, length, filter}
use Rattle.rmt_model.specs.Words.{Has}
use Rattle.rmt_events.specs.Views.{Replica, Table}
use Rattle.rmt_events.specs.Clusters.{Attempt, Cluster, with_replica}
use Rattle.rmt_events.specs.declared.reply.Reply.{Reply}
use Rattle.rmt_events.specs.declared.reply.Reply.TheVariants as rp
use Rattle.rmt_events.specs.declared.step_refused.StepRefused.{StepRefused}

-- this replica has the number
pub record IsNumbered (s : Cluster) (k : ℕ) (x : Replica) : Type 0 where
  pub is_in : Has s.replicas x
  pub number : x.number ≡ k

-- another replica that is up
pub record IsOther (s : Cluster) (k : ℕ) (y : Replica) : Type 0 where
  pub is_in : Has s.replicas y
  pub up : y.up ≡ true
  pub other : y.number ≡ k → ⊥

-- this attempt is open under the number
pub record IsAttempt (s : Cluster) (id : ℕ) (a : Attempt) : Type 0 where
  pub is_in : Has s.attempts a
  pub id_is : a.id ≡ id

-- no attempt is open under the number
abbrev pub LacksAttempt : Cluster → ℕ → Type 0
LacksAttempt s id = (a : Attempt) → IsAttempt s id a → ⊥

-- the open attempts without one
abbrev pub attempts_without : List Attempt → ℕ → List Attempt
attempts_without attempts id = filter (λ a. not (nat_eq a.id id)) attempts

-- the open attempts, where the one of this id has another number
abbrev pub renumbered : List Attempt → ℕ → ℕ → List Attempt
renumbered [] id n = []
renumbered (a ∷ rest) id n = cond (nat_eq a.id id) (record a { number = n } ∷ rest) (a ∷ renumbered rest id n)

-- the cluster with another replica in place of the one with its number
abbrev pub cluster_with : Cluster → ℕ → Replica → Cluster
cluster_with s k y = record s { replicas = with_replica s.replicas k y }

-- the event is refused for this cause, and nothing changes
pub record Declines (s : Cluster) (Cause : StepRefused → Type 0) (reply : Reply) (t : Cluster) : Type 0 where
  pub why : StepRefused
  pub cause : Cause why
  pub answer : reply ≡ rp.Refused why
  pub unchanged : t ≡ s

-- one replica, which is up, does something, and nothing else changes
pub record AtReplica (s : Cluster) (k : ℕ) (Does : Replica → Replica → Type 0) (t : Cluster) : Type 0 where
  pub old : Replica
  pub new : Replica
  pub at : IsNumbered s k old
  pub up : old.up ≡ true
  pub does : Does old new
  pub change : t ≡ cluster_with s k new

-- the table does something, and nothing else changes
pub record AtTable (s : Cluster) (Does : Table → Table → Type 0) (t : Cluster) : Type 0 where
  pub new : Table
  pub does : Does s.table new
  pub change : t ≡ record s { table = new }

-- the table appends an entry, and the reply is its place
pub record Appends (s : Cluster) (Does : Table → Table → Type 0) (reply : Reply) (t : Cluster) : Type 0 where
  pub at : AtTable s Does t
  pub answer : reply ≡ rp.Entry (length s.table.log)

-- the replica is down
pub record IsDown (s : Cluster) (k : ℕ) : Type 0 where
  pub replica : Replica
  pub at : IsNumbered s k replica
  pub down : replica.up ≡ false

-- the replica is up, and this is what it keeps
pub record IsUp (s : Cluster) (k : ℕ) (x : Replica) : Type 0 where
  pub at : IsNumbered s k x
  pub up : x.up ≡ true

-- the schema stays, and no replica comes or goes
pub record KeepsTable (s t : Cluster) : Type 0 where
  pub schema : t.table.schema ≡ s.table.schema
  pub replicas : length t.replicas ≡ length s.replicas
