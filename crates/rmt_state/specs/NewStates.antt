-- A new table with its replicas.
-- No public source: this program's own.
use Rattle.std.specs.Prelude.{◌≡◌, ℕ, ◌+◌, Bool, true, false, List, [], ◌∷◌, map}
use Rattle.rmt_values.specs.Rows.{Shape}
use Rattle.rmt_table.specs.TableTrees.{table_at}
use Rattle.rmt_replica.specs.Replicas.{ReplicaView}
use Rattle.rmt_replica.specs.SeenReplica.{shown}
use Rattle.rmt_events.specs.Starts.{new_table, AreNew}
use Rattle.rmt_state.specs.States.{StateView, IsState}

-- a replica that has nothing
abbrev pub empty_replica : Shape → ℕ → Bool → ReplicaView
empty_replica schema number up = record {
  number = number;
  up = up;
  fetches = true;
  schema = schema;
  log = [];
  cells = [];
  done = [];
  parts = [];
  staged = [];
  noted = [];
}

-- replicas that have nothing, up or down, where k is the number of the first
abbrev pub empty_replicas : Shape → ℕ → List Bool → List ReplicaView
empty_replicas schema k [] = []
empty_replicas schema k (b ∷ up) = empty_replica schema k b ∷ empty_replicas schema (k + 1) up

-- a new table with its replicas, numbered from 1, which have nothing; these are up
pub record IsNewState (schema : Shape) (up : List Bool) (s : StateView) : Type 0 where
  pub numbered : IsState s
  pub table : table_at s.tree ≡ new_table schema (table_at s.tree).sessions
  pub replicas : AreNew (table_at s.tree).sessions (map shown s.replicas)
  pub up_ones : map (λ r. r.up) s.replicas ≡ up
  pub empty : s.replicas ≡ empty_replicas schema 1 up

-- ---- what only private functions cite

-- the numbers of the replicas that are up, where k is the number of the first
abbrev pub numbers_up : ℕ → List Bool → List ℕ
numbers_up k [] = []
numbers_up k (true ∷ up) = k ∷ numbers_up (k + 1) up
numbers_up k (false ∷ up) = numbers_up (k + 1) up
