-- Tables at rest, with their replicas, as a client knows them: what one crew leaves to the next.
-- No public source: that a client compares what it knows with what a replica has is this program's own.
use Rattle.std.specs.Prelude.{◌≡◌, ◌<◌, ◌≤◌, ℕ, suc, Bool, List, [], ◌∷◌, length}
use Rattle.rmt_model.specs.Words.{Each}
use Rattle.rmt_model.specs.Lawful.{Lawful}
use Rattle.rmt_events.specs.Views.{Block}
use Rattle.rmt_table_model.specs.Held.{Held}
use Rattle.rmt_replica.specs.Replicas.{IsStandingReplica, ReplicaView}
use Rattle.rmt_replica.specs.ReplicaRows.{IsReplicaOfRow}
use Rattle.rmt_state.specs.States.{IsState, StateView}
use Rattle.rmt_clients.specs.Clients.{StepsTo}
use Rattle.rmt_known.specs.KnownTables.{Known, client_of}
use Rattle.rmt_readings.specs.Readable.{HasKnown}
use Rattle.rmt_shared.specs.SharedTables.{HasBlocks, named}
use Rattle.rmt_shared.specs.SharedReplicas.{HoldsOnly, StagesFitting}
use Rattle.rmt_pass.specs.Passes.{IsKnownOf, PassView, SeesAs, client_at, known_in, up_in}
use Rattle.rmt_pass.specs.InsertSteps.{AreOpen}

-- a replica of the table stands, and is up and may fetch as the client has it; its active parts have all that the client knows to be
-- there, and it holds only blocks that are offered
pub record IsAtRestReplica (Offered : Block → Type 0) (up : List Bool) (known : Known) (tree : Held) (r : ReplicaView) : Type 0 where
  pub standing : IsStandingReplica r
  pub ups : r.up ≡ up_in up r.number
  pub fetches : r.fetches ≡ (client_of known).fetching r.number
  pub has_known : HasKnown (client_of known) r
  pub few : length r.log ≤ 65536
  pub row : IsReplicaOfRow tree.row r
  pub blocks : HoldsOnly Offered r
  pub fitting : StagesFitting tree.schema r

-- the table's log is lawful, the client knows the table as it is, just the replicas that are up have a session there, and each of its replicas is at rest
pub record IsAtRest (Offered : Block → Type 0) (up : List Bool) (known : Known) (s : StateView) : Type 0 where
  pub state : IsState s
  pub lawful : Lawful s.tree.schema s.tree.log
  pub of : IsKnownOf (length up) (named s.tree) known
  pub sees : SeesAs (client_of known) s.tree
  pub sessions : AreOpen (up_in up) s.tree
  pub all : length s.replicas ≡ length up
  pub blocks : HasBlocks Offered s.tree
  pub replicas : Each (IsAtRestReplica Offered up known s.tree) s.replicas

-- so it is with each table, by its place
abbrev pub AreAtRest : (ℕ → Block → Type 0) → List Bool → List Known → List StateView → Type 0
AreAtRest Offered up [] [] = Unit {0}
AreAtRest Offered up (k ∷ known) (s ∷ states) = IsAtRest (Offered 0) up k s × AreAtRest (λ k. Offered (suc k)) up known states
AreAtRest Offered up known states = ⊥

-- of each table the client knows then all that it knew, and what workers did since
pub record HasSeenAll (Offered : ℕ → Block → Type 0) (old : PassView) (known : List Known) : Type 0 where
  pub count : length known ≡ length old.tables
  pub each : (k : ℕ) → k < length old.tables → StepsTo (Offered k) (client_at old k) (λ t u. u ≡ t) (client_of (known_in known k))
