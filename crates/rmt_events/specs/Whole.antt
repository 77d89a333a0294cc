-- What always holds of a table with its replicas.
-- No public source: this program's own.
use Rattle.std.specs.Prelude.{◌≡◌, ◌⊎◌, ℕ, ◌<◌, ◌≤◌, true, List, length}
use Rattle.std.specs.declared.option.Option.{Option}
use Rattle.std.specs.declared.option.Option.TheVariants.{Some}
use Rattle.rmt_names.specs.Names.{Name, block_name}
use Rattle.rmt_entries.specs.declared.entry.Entry.{Entry}
use Rattle.rmt_entries.specs.declared.entry.Entry.TheVariants.{Get}
use Rattle.rmt_model.specs.Words.{Has, Each, Pairwise}
use Rattle.rmt_model.specs.Live.{Dropped}
use Rattle.rmt_model.specs.Lawful.{Used, entry_at, IsPrefix}
use Rattle.rmt_model.specs.Fair.{CoveredBy}
use Rattle.rmt_model.specs.Parts.{NumberedBlock}
use Rattle.rmt_model.specs.CopiedParts.{Copied, names_of}
use Rattle.rmt_model.specs.Quorum.{Pending, quorum_blocks}
use Rattle.rmt_events.specs.Views.{Block, Staged, Replica, Table}
use Rattle.rmt_model.specs.BlockNumbers.{next_number}
use Rattle.rmt_events.specs.Sound.{IsSoundTable}
use Rattle.rmt_events.specs.ReplicaCalls.{IsStanding, IsStaged}
use Rattle.rmt_events.specs.Clusters.{accepted, values_in, Attempt, Cluster, block_of, committed_at}

-- the block is the one that the log's Get of its number was committed with
pub record IsBlockAt (s : Cluster) (p : Option ℕ) (b : NumberedBlock) : Type 0 where
  pub place : ℕ
  pub source : ℕ
  pub need : ℕ
  pub entry : entry_at s.table.log place ≡ Some (Get p b.number b.digest source need)
  pub block : committed_at s.events place ≡ Some (record { partition = p; digest = b.digest; rows = b.rows })

-- the blocks of a part are those that were committed
abbrev pub HasItsBlocks : Cluster → Copied → Type 0
HasItsBlocks s part = Each (IsBlockAt s part.name.partition) part.lineage

-- a staged block's number was taken; it is the block of the Get of that number, and of the open attempt that has it
pub record IsRightlyStaged (s : Cluster) (z : Staged) : Type 0 where
  pub below : z.number < next_number s.table.next z.block.partition
  pub of_get : (i source need : ℕ) (digest : List ℕ) → entry_at s.table.log i ≡ Some (Get z.block.partition z.number digest source need) → committed_at s.events i ≡ Some z.block
  pub of_try : (a : Attempt) → Has s.attempts a → a.block.partition ≡ z.block.partition → a.number ≡ z.number → z.block ≡ a.block

-- a block with this digest is staged under this number
pub record KeepsBlock (x : Replica) (p : Option ℕ) (n : ℕ) (digest : List ℕ) : Type 0 where
  pub block : Block
  pub staged : IsStaged x p n block
  pub same_id : block.digest ≡ digest

-- the block of a Get is staged here, or an active part covers it, or it is dropped
abbrev pub IsKeptAt : Replica → Option ℕ → ℕ → List ℕ → Type 0
IsKeptAt x p n digest = KeepsBlock x p n digest ⊎ (CoveredBy (names_of x.parts) (block_name p n) ⊎ Dropped x.log (block_name p n))

-- a replica is standing; its copy is a prefix of the log; its session is open exactly where it is up; it has kept what it is the
-- source of; the blocks of its parts are those that were committed; its staged blocks are the right ones
pub record Follows (s : Cluster) (x : Replica) : Type 0 where
  pub stands : IsStanding s.table.schema x
  pub prefix : IsPrefix x.log s.table.log
  pub session : (x.up ≡ true → Has s.table.sessions x.number) × (Has s.table.sessions x.number → x.up ≡ true)
  pub sources : (p : Option ℕ) (n need : ℕ) (digest : List ℕ) → Has s.table.log (Get p n digest x.number need) → IsKeptAt x p n digest
  pub blocks : Each (HasItsBlocks s) x.parts
  pub waiting : Each (IsRightlyStaged s) x.staged

-- an open attempt: its block is that of its Allocate; its number was taken, and no entry uses it
pub record IsOpen (s : Cluster) (a : Attempt) : Type 0 where
  pub counted : a.id < s.attempts_made
  pub allocated : block_of s.events a.id ≡ Some a.block
  pub below : a.number < next_number s.table.next a.block.partition
  pub unused : Used s.table.log a.block.partition a.number → ⊥

-- the block of a Get's commit has the Get's id
pub record IsCommitted (s : Cluster) (i : ℕ) (p : Option ℕ) (digest : List ℕ) : Type 0 where
  pub block : Block
  pub is : committed_at s.events i ≡ Some block
  pub partition : block.partition ≡ p
  pub same_id : block.digest ≡ digest

-- the source of a Get is a replica
pub record HasReplica (xs : List Replica) (k : ℕ) : Type 0 where
  pub replica : Replica
  pub is_in : Has xs replica
  pub numbered : replica.number ≡ k

-- the replica of the number has the part in its list of noted ones
pub record HasNoted (xs : List Replica) (a : Name) (k : ℕ) : Type 0 where
  pub replica : Replica
  pub is_in : Has xs replica
  pub numbered : replica.number ≡ k
  pub noted : Has replica.noted a

-- as many different replicas as the part's Get asks for have it in their lists of noted ones
pub record IsMet (log : List Entry) (xs : List Replica) (a : Name) : Type 0 where
  pub need : ℕ
  pub asked : Has (quorum_blocks log) (record { part = a; need = need })
  pub by : List ℕ
  pub once : Pairwise ◌<◌ by
  pub enough : need ≤ length by
  pub each : Each (HasNoted xs a) by

-- what the table has of notes the replicas have: each that is noted for the part that waits for its quorum, and as many as the
-- last part needed
pub record KeepNotes (t : Table) (xs : List Replica) : Type 0 where
  pub pending : (q : Pending) → t.quorum.pending ≡ Some q → Each (HasNoted xs q.part) q.noted
  pub last : (a : Name) → t.quorum.last ≡ Some a → IsMet t.log xs a

-- two attempts have different ids, and different numbers of one partition
abbrev pub HoldDifferentNumbers : Attempt → Attempt → Type 0
HoldDifferentNumbers a b = (a.id ≡ b.id → ⊥) × (a.block.partition ≡ b.block.partition → a.number ≡ b.number → ⊥)

-- the table is sound and its values are those of the accepted blocks; each replica follows it; each Get has its block and its
-- source; open attempts have numbers of their own; what the table has of notes the replicas have
pub record IsWhole (s : Cluster) : Type 0 where
  pub table : IsSoundTable s.table
  pub rising : Pairwise (λ x y. x.number < y.number) s.replicas
  pub follow : Each (Follows s) s.replicas
  pub committed : (i : ℕ) (p : Option ℕ) (n source need : ℕ) (digest : List ℕ) → entry_at s.table.log i ≡ Some (Get p n digest source need) → IsCommitted s i p digest × HasReplica s.replicas source
  pub attempts : Each (IsOpen s) s.attempts
  pub apart : Pairwise HoldDifferentNumbers s.attempts
  pub counted : s.table.values ≡ values_in s.table.schema (accepted s)
  pub notes : KeepNotes s.table s.replicas
