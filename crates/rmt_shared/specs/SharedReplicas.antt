-- What lies under the lock of a replica.
-- No public source: the locks are this program's own.
use Rattle.std.specs.Prelude.{◌≡◌, ◌⊎◌, ◌≤◌, ◌<◌, ℕ, true, false, List, length}
use Rattle.std.specs.List.{All}
use Rattle.rmt_values.specs.Rows.{Shape, fits}
use Rattle.rmt_block.specs.Blocks.{BlockView}
use Rattle.rmt_model.specs.Words.{Each}
use Rattle.rmt_events.specs.Views.{Block}
use Rattle.rmt_events.specs.Clusters.{without_kinds}
use Rattle.rmt_part.specs.Lineages.{PartValue}
use Rattle.rmt_replica.specs.Replicas.{ReplicaView, LengthensCopy}
use Rattle.rmt_replica.specs.ReplicaRows.{IsReplicaOfRow}
use Rattle.rmt_table_model.specs.Held.{Held}
use Rattle.rmt_jobs.specs.declared.job.Job.{Job}
use Rattle.rmt_jobs.specs.declared.job.Job.TheVariants as jobs
use Rattle.rmt_shared.specs.SharedTables.{NamedTable, AppendsMerge, AppendsMutate, IsUnmerged, IsUnmutated, log_in, views_of, name_at}

-- a replica, and the place of its table, counted from 0
pub record SharedReplicaView : Type 0 where
  pub table : ℕ
  pub replica : ReplicaView

-- replicas are numbered from 1 up to their count
pub record IsNumber (k count : ℕ) : Type 0 where
  pub first : 1 ≤ k
  pub last : k ≤ count

-- each block that the part was made from is one of these
abbrev pub IsMadeOf : (Block → Type 0) → PartValue → Type 0
IsMadeOf Offered part = Each (λ b. Offered (without_kinds b.block)) part.blocks

-- each block that is staged at the replica, or that a part of it was made from, is one of these
pub record HoldsOnly (Offered : Block → Type 0) (r : ReplicaView) : Type 0 where
  pub staged : Each (λ s. Offered (without_kinds s.1)) r.staged
  pub parts : Each (IsMadeOf Offered) r.parts

-- each row of the block fits the columns of the schema
abbrev pub FitsColumns : Shape → BlockView → Type 0
FitsColumns schema b = All (λ row. fits schema.columns row ≡ true) b.rows

-- each block that is staged at the replica fits the columns of the schema
abbrev pub StagesFitting : Shape → ReplicaView → Type 0
StagesFitting schema r = Each (λ z. FitsColumns schema z.1) r.staged

-- the replica is one of so many of a named table, with tokens of its cells, and it holds only blocks that are offered to it;
-- those that are staged fit the table's columns
pub record IsSharedReplica (names : List NamedTable) (replicas : ℕ) (Offered : ℕ → Block → Type 0) (s : SharedReplicaView) : Type 0 where
  pub number : IsNumber s.replica.number replicas
  pub few : length s.replica.log ≤ 65536
  pub schema : s.replica.schema ≡ (name_at names s.table).schema
  pub row : IsReplicaOfRow (name_at names s.table).row s.replica
  pub blocks : HoldsOnly (Offered s.table) s.replica
  pub fitting : StagesFitting (name_at names s.table).schema s.replica

-- the replica is as it was, or its copy of the log is longer
abbrev pub MayLengthen : ReplicaView → ReplicaView → Type 0
MayLengthen old new = (new ≡ old) ⊎ LengthensCopy old new

-- the replica's copy is the log of its table, unless the replica is down or that log is shorter
abbrev pub IsPulled : SharedReplicaView → List Held → SharedReplicaView → Type 0
IsPulled old tables new =
    (new.replica.log ≡ log_in tables old.table)
    ⊎ ((old.replica.up ≡ false) ⊎ (length (log_in tables old.table) < length old.replica.log))

-- What is done of a job under the locks of all tables and of the replica: the copy is brought to the log's length, or a merge
-- or a mutate enters the log unless there is a cause why it doesn't. An entry that is to be done is left to do.
abbrev pub IsBegun : SharedReplicaView → List Held → Job → SharedReplicaView → List Held → Type 0
IsBegun old tables jobs.Idle new now = (new ≡ old) × (now ≡ tables)
IsBegun old tables jobs.Pull new now = IsPulled old tables new × (views_of now ≡ views_of tables)
IsBegun old tables (jobs.Apply i) new now = (new ≡ old) × (now ≡ tables)
IsBegun old tables (jobs.Merge names) new now =
    (new ≡ old)
    × (AppendsMerge tables old.table names now
    ⊎ ((now ≡ tables) × IsUnmerged tables old.table old.replica.log names))
IsBegun old tables (jobs.Mutate part upto) new now =
    (new ≡ old)
    × (AppendsMutate tables old.table part upto now
    ⊎ ((now ≡ tables) × IsUnmutated tables old.table old.replica.log part upto))
