-- A table and its replicas as what they keep: all that the events of a cluster are about.
-- ClickHouse documentation, Data Replication: the log, block numbers, checksums of blocks, insert_quorum. ZooKeeper
-- programmer's guide, "Ephemeral Nodes": sessions, and locks that live with them.
use Rattle.std.specs.Prelude.{ℕ, Bool, List}
use Rattle.std.specs.declared.option.Option.{Option}
use Rattle.rmt_values.specs.Rows.{Shape}
use Rattle.rmt_names.specs.Names.{Name}
use Rattle.rmt_entries.specs.declared.entry.Entry.{Entry}
use Rattle.rmt_model.specs.Content.{Row}
use Rattle.rmt_model.specs.Window.{Kept}
use Rattle.rmt_model.specs.CopiedParts.{Copied}
use Rattle.rmt_model.specs.Quorum.{Quorum}

-- a block: its partition, the digest of its bytes, its rows
pub record Block : Type 0 where
  pub partition : Option ℕ
  pub digest : List ℕ
  pub rows : List Row

-- a block that is staged at a replica under a number of its partition
pub record Staged : Type 0 where
  pub number : ℕ
  pub block : Block

-- a replica: its number, whether it is up and may fetch, its copy of the log, its marks, its active parts, its staged
-- blocks in order, and the parts that it has noted
pub record Replica : Type 0 where
  pub number : ℕ
  pub up : Bool
  pub fetches : Bool
  pub log : List Entry
  pub done : List Bool
  pub parts : List Copied
  pub staged : List Staged
  pub noted : List Name

-- a number of a partition that an insert holds, and the replica whose session it lives with
pub record Lock : Type 0 where
  pub partition : Option ℕ
  pub number : ℕ
  pub owner : ℕ

-- a table: its log, the next number of each partition that exists, in order of partition, the locks in order, the kept ids, the
-- replicas whose session is open, in order, the quorum, and the count of its blocks' values
pub record Table : Type 0 where
  pub schema : Shape
  pub log : List Entry
  pub next : List (Option ℕ × ℕ)
  pub locks : List Lock
  pub window : List Kept
  pub sessions : List ℕ
  pub quorum : Quorum
  pub values : ℕ
