-- What a client may read at a replica of a table.
-- No public source: this program's own.
use Rattle.std.specs.Prelude.{◌≡◌, ℕ, ◌≤◌, List, IfErr, IfOk}
use Rattle.std.specs.declared.result.Result.{Result}
use Rattle.rmt_names.specs.Names.{Name}
use Rattle.rmt_model.specs.Words.{Each}
use Rattle.rmt_model.specs.Lawful.{Lawful}
use Rattle.rmt_model.specs.EntryLimits.{worker_count}
use Rattle.rmt_events.specs.Views.{Block}
use Rattle.rmt_partset.specs.Snapshots.{NamedData}
use Rattle.rmt_replica.specs.Replicas.{ReplicaView}
use Rattle.rmt_statement_model.specs.TableStates.{shown_at}
use Rattle.rmt_clients.specs.Clients.{KnowsTable, known_table}
use Rattle.rmt_reply.specs.declared.refusal.Refusal.{Refusal}
use Rattle.rmt_readings.specs.Readable.{IsReadable}
use Rattle.rmt_readings.specs.QuorumParts.{AreInQuorum, LacksCover}
use Rattle.rmt_shared.specs.SharedTables.{NamedTable}
use Rattle.rmt_shared.specs.SharedReplicas.{IsMadeOf}
use Rattle.rmt_pass.specs.Passes.{PassView, KeepsPass, client_at}

-- these are parts of a replica of the table at a place, which the client may read: they are made of blocks that are offered to it
pub record IsReadableAt (Offered : ℕ → Block → Type 0) (named : NamedTable) (p : PassView) (k : ℕ) (r : ReplicaView) (parts : List NamedData) : Type 0 where
  pub lawful : Lawful (client_at p k).schema (client_at p k).log
  pub few : worker_count (client_at p k).log ≤ 32768
  pub name : (client_at p k).schema ≡ named.schema
  pub schema : r.schema ≡ (client_at p k).schema
  pub offered : Each (IsMadeOf (Offered k)) r.parts
  pub readable : IsReadable (client_at p k) r parts

-- ---- what only private functions cite

-- these are the parts in a quorum of such a replica, or the refusal of such a read
pub record IsFoundAt (Offered : ℕ → Block → Type 0) (named : NamedTable) (p : PassView) (k : ℕ) (r : ReplicaView) (found : Result (List NamedData) Refusal) : Type 0 where
  pub active : List NamedData
  pub readable : IsReadableAt Offered named p k r active
  pub kept : IfOk found (AreInQuorum (client_at p k).quorum active)
  pub refused : IfErr found (LacksCover (client_at p k).quorum active)

-- what these names hold is known at a replica of the table at a place then, and nothing else changes
pub record ShowsAt (old : PassView) (k r : ℕ) (names : List Name) (new : PassView) : Type 0 where
  pub knows : KnowsTable (client_at new k) (shown_at r names (known_table (client_at old k)))
  pub keeps : KeepsPass old k new
  pub goes : new.gave_up ≡ old.gave_up
