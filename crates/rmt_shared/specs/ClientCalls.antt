-- What the calls of clients change of the tables, and what they tell of the table at a place.
-- No public source: a call changes a table as the documentation of ClickHouse says (`rmt_events`), under a lock of this program's
-- own.
use Rattle.std.specs.Prelude.{◌≡◌, ℕ, Bool, true, false, List, slice_index_or}
use Rattle.std.specs.declared.option.Option.{Option}
use Rattle.std.specs.declared.option.Option.TheVariants.{Some, None}
use Rattle.rmt_names.specs.Names.{Name}
use Rattle.rmt_block.specs.Blocks.{BlockView}
use Rattle.rmt_block.specs.declared.block_id.BlockId.{BlockId}
use Rattle.rmt_model.specs.BlockNumbers.{next_number}
use Rattle.rmt_events.specs.Clusters.{values_of}
use Rattle.rmt_events.specs.TableCalls.{Allocates, Commits, DropsPartition, Notes}
use Rattle.rmt_events.specs.TableRefusals.{HasQuorum}
use Rattle.rmt_table_model.specs.Held.{Held}
use Rattle.rmt_table.specs.declared.lock.Lock.{Lock}
use Rattle.rmt_table.specs.TableTrees.{table_at}
use Rattle.rmt_table.specs.Quorums.{IsPendingPart}
use Rattle.rmt_shared.specs.SharedTables.{ChangesTable}

-- this is so of the table at a place
pub record HasTable (tables : List Held) (k : ℕ) (Fact : Held → Type 0) : Type 0 where
  pub table : Held
  pub is : table ≡ slice_index_or tables k table
  pub fact : Fact table

-- how many entries the answer on a drop has added to a log
abbrev pub entries_of : Option ℕ → ℕ
entries_of None = 0
entries_of (Some n) = 1

-- a drop of a partition's numbers below this one enters the log of the table at a place, and nothing else changes; or the partition
-- doesn't exist there, and nothing changes
abbrev pub DropsIn : List Held → ℕ → Option ℕ → Option ℕ → List Held → Type 0
DropsIn old k p None new = HasTable old k (λ t. next_number t.next p ≡ 0) × (new ≡ old)
DropsIn old k p (Some n) new = ChangesTable old k (λ t u. DropsPartition (table_at t) p n (table_at u)) new

-- a replica's block of this id gets the lock's number in a table where enough replicas have a session for it
pub record GivesNumber (replica : ℕ) (id : BlockId) (need : ℕ) (lock : Lock) (old new : Held) : Type 0 where
  pub is : lock ≡ record { replica = replica; session = lock.session; number = next_number old.next id.partition; id = id }
  pub quorum : HasQuorum (table_at old) need
  pub allocates : Allocates (table_at old) replica id.partition id.digest lock.number (table_at new)

-- the block of a lock is accepted in a table where enough replicas have a session for it
pub record AcceptsBlock (lock : Lock) (need : ℕ) (block : BlockView) (old new : Held) : Type 0 where
  pub quorum : HasQuorum (table_at old) need
  pub commits : Commits (table_at old) lock.id.partition lock.number lock.id.digest lock.replica need (values_of old.schema block.rows) (table_at new)

-- a replica is noted for the part that waits for its quorum in the table at a place; or the part doesn't wait there, and nothing
-- changes
abbrev pub NotesIn : List Held → ℕ → ℕ → Name → Bool → List Held → Type 0
NotesIn old k replica part true new = ChangesTable old k (λ t u. IsPendingPart t.quorum.pending part × Notes (table_at t) replica (table_at u)) new
NotesIn old k replica part false new = HasTable old k (λ t. IsPendingPart t.quorum.pending part → ⊥) × (new ≡ old)
