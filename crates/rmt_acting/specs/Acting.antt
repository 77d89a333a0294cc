-- What is seen of a table in which acts are done, in the words of its states alone: a table that rests first, where workers run, and then changes.
-- No public source: this program's own. The rows that are cited have theirs.
use Rattle.std.specs.Prelude.{◌≡◌, ◌≢◌, ℕ, Bool, true, false, cond, nat_eq}
use Rattle.std.specs.declared.option.Option.{Option}
use Rattle.rmt_values.specs.Rows.{Shape}
use Rattle.rmt_model.specs.Lawful.{mutation_count}
use Rattle.rmt_events.specs.Clusters.{Cluster}
use Rattle.rmt_statement_model.specs.TableStates.{TableState}
use Rattle.rmt_statement_model.specs.Rests.{Rests}
use Rattle.rmt_clients.specs.Clients.{Client}

-- what is seen of a table: the states that it shows; its schema; how many replicas it has, which of them are up, and which may
-- fetch; how many mutations were made; that no insert is under way; where no workers run, the cluster that the events have made; and
-- where they run, the table's place, and what its client knows of the tables at other places
pub record Sight (workers : Bool) : Type 1 where
  pub shows : TableState → Type 0
  pub shape : Shape
  pub count : ℕ
  pub ups : ℕ → Bool
  pub fetching : ℕ → Bool
  pub mutations : ℕ
  pub free : Type 0
  pub cluster : Cluster
  pub place : ℕ
  pub others : ℕ → Option Client
  pub schema-shown : (t : TableState) → shows t → t.schema ≡ shape
  pub fetching-shown : (t : TableState) → shows t → t.fetching ≡ fetching
  pub mutations-shown : (t : TableState) → shows t → mutation_count t.log ≡ mutations
  pub cluster-shape : workers ≡ false → cluster.table.schema ≡ shape

-- the replica of a number is up, and no insert is under way
pub record MayAct {workers : Bool} (s : Sight workers) (r : ℕ) : Type 0 where
  pub up : s.ups r ≡ true
  pub free : s.free

-- the schema stays, no replica comes or goes, and nothing else is known of another table
pub record KeepsShape {workers : Bool} (s u : Sight workers) : Type 0 where
  pub shape : u.shape ≡ s.shape
  pub count : u.count ≡ s.count
  pub place : u.place ≡ s.place
  pub others : (k : ℕ) → k ≢ s.place → u.others k ≡ s.others k

-- no insert is under way, and the same replicas are up
pub record GoesOn {workers : Bool} (s u : Sight workers) : Type 0 where
  pub free : u.free
  pub ups : u.ups ≡ s.ups

-- no insert comes under way, and the same replicas are up; where no workers run, there is no event
pub record Leaves {workers : Bool} (s u : Sight workers) : Type 0 where
  pub free : s.free → u.free
  pub ups : u.ups ≡ s.ups
  pub events : workers ≡ false → u.cluster ≡ s.cluster

-- the replica is up, or down, and the others are as they were; no insert comes under way
pub record TurnsReplica {workers : Bool} (r : ℕ) (is_up : Bool) (s u : Sight workers) : Type 0 where
  pub ups : (k : ℕ) → u.ups k ≡ cond (nat_eq r k) is_up (s.ups k)
  pub free : s.free → u.free

-- a state of which this holds is shown
pub record LeadsTo {workers : Bool} (u : Sight workers) (Holds : TableState → Type 0) : Type 0 where
  pub state : TableState
  pub holds : Holds state
  pub shows : u.shows state

-- the table rests, and then changes so
pub record RestsThen (workers : Bool) (Change : TableState → TableState → Type 0) (t u : TableState) : Type 0 where
  pub at : TableState
  pub rests : Rests workers t at
  pub change : Change at u

-- whatever state was shown, the table rests and changes so, and that is shown
abbrev pub Brings : {workers : Bool} → Sight workers → (TableState → TableState → Type 0) → Sight workers → Type 0
Brings {workers} s Change u = (t : TableState) → s.shows t → LeadsTo u (RestsThen workers Change t)

-- what is shown stays shown
abbrev pub Stays : {workers : Bool} → Sight workers → Sight workers → Type 0
Stays s u = (t : TableState) → s.shows t → u.shows t
