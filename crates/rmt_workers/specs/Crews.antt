-- What the locks of a crew hold, and what is taken out of them.
-- No public source: the locks are this program's own.
use Rattle.std.specs.Prelude.{◌≡◌, ℕ, false, List, length}
use Rattle.std.specs.Arc.{arc_value}
use Rattle.rmt_row.specs.Token.{IsOf}
use Rattle.rmt_entries.specs.declared.entry.Entry.{Entry}
use Rattle.rmt_events.specs.Views.{Block}
use Rattle.rmt_partset.specs.Snapshots.{NamedData}
use Rattle.rmt_statement_model.specs.ActOutcomes.{ReadsParts}
use Rattle.rmt_clients.specs.Clients.{Client, seeing, SeesHere, StepsTo}
use Rattle.rmt_replica.specs.Replicas.{ReplicaView, IsDrained}
use Rattle.rmt_supply.specs.PartSources.{IsGetFor}
use Rattle.rmt_supply.specs.TakenParts.{CanBuild}
use Rattle.rmt_shared.specs.SharedTables.{NamedTable}
use Rattle.rmt_shared.specs.SharedReplicas.{SharedReplicaView}
use Rattle.rmt_shared.specs.ReplicaSupplies.{IsTakenFrom}
use Rattle.rmt_pass.specs.Passes.{PassView, KeepsPass, client_at, up_in}
use Rattle.rmt_workers.specs.declared.needed.Needed.{Needed}
use Rattle.rmt_workers.specs.declared.wanted.Wanted.{Wanted}

-- the replica of a number of the table at a place
pub record IsReplicaAt (table r : ℕ) (s : SharedReplicaView) : Type 0 where
  pub its_table : s.table ≡ table
  pub its_number : s.replica.number ≡ r

-- ---- what only private functions cite

-- the replica has done each entry of its copy, which is as long as the log
pub record HasDoneAll (r : ReplicaView) (log : List Entry) : Type 0 where
  pub drained : IsDrained r
  pub whole : length r.log ≡ length log

-- the client has taken over what workers did at the table at a place: entries that they appended, and replicas that were noted
pub record Saw (old : PassView) (k : ℕ) (new : PassView) : Type 0 where
  pub gained : List Entry
  pub noted : List ℕ
  pub sees : SeesHere (client_at old k) gained
  pub seen : client_at new k ≡ seeing gained noted (client_at old k)
  pub keeps : KeepsPass old k new
  pub goes : new.gave_up ≡ false

-- these parts can be read at a replica: a client that knew this and notes them has taken the step of a read
pub record MayRead (Offered : Block → Type 0) (p : Client) (r : ℕ) (parts : List NamedData) : Type 0 where
  pub noting : Client
  pub steps : StepsTo Offered p (ReadsParts r parts) noting

-- the replica is up and may fetch as the client has it of the table at a place, and is the same one
pub record IsSetAsKnown (p : PassView) (k : ℕ) (old new : SharedReplicaView) : Type 0 where
  pub table : new.table ≡ old.table
  pub number : new.replica.number ≡ old.replica.number
  pub up : new.replica.up ≡ up_in p.up old.replica.number
  pub fetches : new.replica.fetches ≡ (client_at p k).fetching old.replica.number

-- what an entry needs was taken out of a replica of this table
pub record IsNeededOf (name : NamedTable) (Offered : Block → Type 0) (n : Needed) : Type 0 where
  pub can_build : CanBuild n.taken
  pub taken_from : IsTakenFrom name Offered n.taken
  pub schema : arc_value n.schema ≡ name.schema

-- what is wanted is a Get of this table
pub record IsWantedOf (name : NamedTable) (w : Wanted) : Type 0 where
  pub get : IsGetFor w.get w.name
  pub row : IsOf name.row w.get
  pub schema : arc_value w.schema ≡ name.schema
