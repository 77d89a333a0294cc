-- A replica of a table, and what always holds of it.
-- ClickHouse documentation, Data Replication: each replica copies the log of the table and works through it by itself.
use Rattle.std.specs.Prelude.{◌≡◌, ℕ, ◌≤◌, Bool, false, List, length, take}
use Rattle.rmt_values.specs.Rows.{Shape}
use Rattle.rmt_names.specs.Names.{Name}
use Rattle.rmt_entries.specs.declared.entry.Entry.{Entry}
use Rattle.rmt_model.specs.Words.{Each}
use Rattle.rmt_model.specs.Lawful.{Lawful, IsPrefix}
use Rattle.rmt_model.specs.Fair.{AreFair, AllMarked}
use Rattle.rmt_history.specs.Copies.{History}
use Rattle.rmt_queue.specs.Marks.{done_at, grown}
use Rattle.rmt_part.specs.Lineages.{PartValue}
use Rattle.rmt_partset.specs.ActiveParts.{part_names}
use Rattle.rmt_replica.specs.Parts.{IsMadeIn, IsKeptNote}
use Rattle.rmt_replica.specs.StagedBlocks.{Staged, AreStaged}

-- a replica: its number, whether it is up, whether it may fetch, its copy of the log, the newest entry first, with the cells
-- of the entries, a done mark for each place, its active parts, its staged blocks, and the parts that it has noted, the first
-- one first
pub record ReplicaView : Type 0 where
  pub number : ℕ
  pub up : Bool
  pub fetches : Bool
  pub schema : Shape
  pub log : List Entry
  pub cells : List ℕ
  pub done : List Bool
  pub parts : List PartValue
  pub staged : Staged
  pub noted : List Name

-- the copy is lawful; the active parts were made within it, are apart, and are fair for what is done: each result of a done
-- entry is covered by one of them or dropped, and none is taken away by a done drop; the staged blocks stand in order; each
-- noted part is covered by an active part or dropped
pub record IsStandingReplica (r : ReplicaView) : Type 0 where
  pub lawful : Lawful r.schema r.log
  pub marks : length r.done ≡ length r.log
  pub fair : AreFair r.log (done_at r.done) (part_names r.parts)
  pub made : Each (IsMadeIn r.schema r.log) r.parts
  pub waiting : AreStaged r.staged
  pub notes : Each (IsKeptNote r.log (part_names r.parts)) r.noted

-- every entry of the copy is done
abbrev pub IsDrained : ReplicaView → Type 0
IsDrained r = AllMarked r.log (done_at r.done)

-- its copy of the log
abbrev pub copy_of : ReplicaView → History
copy_of r = record { schema = r.schema; log = r.log; cells = r.cells }

-- nothing changes but that the copy may be longer, and what is new isn't done
pub record LengthensCopy (old new : ReplicaView) : Type 0 where
  pub others : new ≡ record old { log = new.log; cells = new.cells; done = grown old.done (length new.log) }
  pub longer : IsPrefix old.log new.log

-- there is a mark for each place of the copy, and those past it aren't set
pub record HasMarks (copy : History) (marks : List Bool) : Type 0 where
  pub enough : length copy.log ≤ length marks
  pub none_past : (i : ℕ) → length copy.log ≤ i → done_at marks i ≡ false

-- a replica, put together from what it keeps
abbrev pub replica_of : ℕ → Bool → Bool → History → List Bool → List PartValue → Staged → List Name → ReplicaView
replica_of number up fetches copy marks parts staged noted = record {
  number = number;
  up = up;
  fetches = fetches;
  schema = copy.schema;
  log = copy.log;
  cells = copy.cells;
  done = take (length copy.log) marks;
  parts = parts;
  staged = staged;
  noted = noted;
}

-- the replica stands, and its marks are those of its copy
pub record IsReplica (copy : History) (marks : List Bool) (r : ReplicaView) : Type 0 where
  pub marked : HasMarks copy marks
  pub standing : IsStandingReplica r
