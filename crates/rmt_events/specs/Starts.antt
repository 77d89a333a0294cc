-- A new table with its replicas.
-- No public source: this program's own.
use Rattle.std.specs.Prelude.{◌≡◌, ℕ, ◌<◌, Bool, true, List, []}
use Rattle.std.specs.declared.option.Option.TheVariants.{None}
use Rattle.rmt_values.specs.Rows.{Shape}
use Rattle.rmt_model.specs.Words.{Has, Pairwise}
use Rattle.rmt_events.specs.Views.{Replica, Table}
use Rattle.rmt_events.specs.Clusters.{Cluster}

-- a replica that has nothing
abbrev pub new_replica : ℕ → Bool → Replica
new_replica number up = record { number = number; up = up; fetches = true; log = []; done = []; parts = []; staged = []; noted = [] }

-- a table without entries
abbrev pub new_table : Shape → List ℕ → Table
new_table schema sessions = record { schema = schema; log = []; next = []; locks = []; window = []; sessions = sessions; quorum = record { pending = None; last = None }; values = 0 }

-- a new table with its replicas, before any event
abbrev pub new_cluster : Shape → List ℕ → List Replica → Cluster
new_cluster schema sessions replicas = record { table = new_table schema sessions; replicas = replicas; attempts_made = 0; attempts = []; events = [] }

-- replicas that have nothing, in the order of their numbers, with a session where they are up
pub record AreNew (sessions : List ℕ) (replicas : List Replica) : Type 0 where
  pub rising : Pairwise (λ x y. x.number < y.number) replicas
  pub each : (x : Replica) → Has replicas x → (x ≡ new_replica x.number x.up) × (x.up ≡ true → Has sessions x.number) × (Has sessions x.number → x.up ≡ true)
