-- A new cluster.
-- No public source: this program's own.
use Rattle.std.specs.Prelude.{◌≡◌, ℕ, ◌+◌, Bool, List, [], ◌∷◌, map}
use Rattle.rmt_values.specs.Rows.{Shape}
use Rattle.rmt_events.specs.Views.{Replica}
use Rattle.rmt_events.specs.Clusters.{Cluster}
use Rattle.rmt_events.specs.Starts.{AreNew, new_cluster}

-- the replicas have the numbers from this one on, in order
abbrev pub AreCounted : ℕ → List Replica → Type 0
AreCounted k [] = Unit {0}
AreCounted k (x ∷ others) = (x.number ≡ k) × AreCounted (k + 1) others

-- a new cluster with replicas that have nothing, numbered from 1; these are up, and have a session
pub record IsNewCluster (schema : Shape) (up : List Bool) (c : Cluster) : Type 0 where
  pub is_new : c ≡ new_cluster schema c.table.sessions c.replicas
  pub replicas : AreNew c.table.sessions c.replicas
  pub numbered : AreCounted 1 c.replicas
  pub up_ones : map (λ r. r.up) c.replicas ≡ up
