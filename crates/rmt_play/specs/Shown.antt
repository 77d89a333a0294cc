-- Clusters that show the tables of a world, as they are handed back at the end of a run.
-- No public source: this program's own.
use Rattle.std.specs.Prelude.{◌≡◌, ℕ, Bool, List, [], ◌∷◌, length}
use Rattle.rmt_values.specs.Order.{SameBag}
use Rattle.rmt_model.specs.Words.{Has}
use Rattle.rmt_model.specs.Content.{rows}
use Rattle.rmt_events.specs.Views.{Lock, Replica}
use Rattle.rmt_events.specs.Clusters.{Accepted, Cluster, accepted, rows_at}
use Rattle.rmt_events.specs.ReplicaCalls.{IsDrained}
use Rattle.rmt_events.specs.Shown.{names_and_rows, read_rows}
use Rattle.rmt_statement_model.specs.Shows.{Shows, up_at}
use Rattle.rmt_play.specs.World.{Table}
use Rattle.rmt_play.specs.declared.end.End.{End}
use Rattle.rmt_play.specs.declared.end.End.TheVariants as ends

-- the cluster of each table, in their order, as the statements' events made it: it has the table's log, blocks and next numbers;
-- and what is known at a replica is covered by an active part there, or dropped in the log
abbrev pub AreShown : List Cluster → List Table → Type 0
AreShown [] [] = Unit {0}
AreShown (c ∷ clusters) (t ∷ tables) = (c ≡ t.cluster) × Shows c t.state × AreShown clusters tables
AreShown clusters tables = ⊥

-- there are so many replicas, of which these are up, and no insert holds a block number
pub record AreReplicas (count : ℕ) (up : ℕ → Bool) (replicas : List Replica) (locks : List Lock) : Type 0 where
  pub counted : length replicas ≡ count
  pub are_up : up_at replicas ≡ up
  pub free : locks ≡ []

-- the cluster has these replicas
abbrev pub HasReplicas : ℕ → (ℕ → Bool) → Cluster → Type 0
HasReplicas count up c = AreReplicas count up c.replicas c.table.locks

-- the promise of replication: replicas that are drained to one length of the log have parts of equal names and equal rows, and what
-- is read of a drained replica is the plain rows of the accepted blocks
-- ClickHouse documentation, Data Replication: replicas that have done the same log have the same data.
pub record AgreesOn (replicas : List Replica) (blocks : List Accepted) : Type 0 where
  pub equal : (x y : Replica) → Has replicas x → Has replicas y → IsDrained x → IsDrained y → length x.log ≡ length y.log → names_and_rows x.parts ≡ names_and_rows y.parts
  pub plain : (x : Replica) → Has replicas x → IsDrained x → SameBag (read_rows x.log x.parts) (rows x.log (rows_at blocks))

-- the cluster's replicas agree on the blocks that were accepted
abbrev pub Agrees : Cluster → Type 0
Agrees s = AgreesOn s.replicas (accepted s)

-- these clusters are handed back
abbrev pub HandsBack : End → List Cluster → Type 0
HandsBack (ends.Stepped given) clusters = given ≡ clusters
HandsBack (ends.Threaded states) clusters = ⊥
HandsBack ends.Nothing clusters = ⊥
