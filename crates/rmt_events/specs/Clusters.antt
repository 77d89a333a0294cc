-- A table with its replicas, the inserts that are open, and the events that made it so.
-- No public source: that a cluster stores its events, and that the accepted blocks are read off them, is this program's own.
use Rattle.std.specs.Prelude.{ℕ, ◌+◌, ◌*◌, ◌&&◌, cond, nat_eq, List, [], ◌∷◌, length}
use Rattle.std.specs.declared.option.Option.{Option}
use Rattle.std.specs.declared.option.Option.TheVariants.{Some, None}
use Rattle.rmt_values.specs.Rows.{Shape}
use Rattle.std.specs.Arc.{arc_value}
use Rattle.rmt_block.specs.Blocks.{BlockView}
use Rattle.rmt_events.specs.declared.event.Event.{Event}
use Rattle.rmt_events.specs.declared.event.Event.TheVariants as ev
use Rattle.rmt_events.specs.declared.reply.Reply.{Reply}
use Rattle.rmt_events.specs.declared.reply.Reply.TheVariants as rp
use Rattle.rmt_names.specs.Names.{rank}
use Rattle.rmt_entries.specs.declared.entry.Entry.{Entry}
use Rattle.rmt_entries.specs.declared.entry.Entry.TheVariants.{Get, Merge, Mutate, Mutation, DropRange}
use Rattle.rmt_model.specs.Content.{Row, Blocks}
use Rattle.rmt_events.specs.Views.{Block, Replica, Table}

-- an attempt to insert one block: its number in the order of attempts, the replica that it is made at, the block, the block
-- number that it has, and how many replicas it asks for
pub record Attempt : Type 0 where
  pub id : ℕ
  pub replica : ℕ
  pub block : Block
  pub number : ℕ
  pub need : ℕ

-- a block as the log and the parts have it
abbrev pub without_kinds : BlockView → Block
without_kinds b = record { partition = b.partition; digest = b.digest; rows = b.rows }

-- a table and its replicas in the order of their numbers, how many attempts were made, the open ones, and the events with their
-- replies, the newest first
pub record Cluster : Type 0 where
  pub table : Table
  pub replicas : List Replica
  pub attempts_made : ℕ
  pub attempts : List Attempt
  pub events : List (Event × Reply)

-- the block that an attempt was made for
abbrev pub block_of : List (Event × Reply) → ℕ → Option Block
block_of [] a = None
block_of ((ev.Allocate r b need, rp.Attempt k n) ∷ rest) a = cond (nat_eq k a) (Some (without_kinds (arc_value b))) (block_of rest a)
block_of (x ∷ rest) a = block_of rest a

-- the block whose commit was answered with this place
abbrev pub committed_at : List (Event × Reply) → ℕ → Option Block
committed_at [] i = None
committed_at ((ev.Commit a, rp.Entry j) ∷ rest) i = cond (nat_eq j i) (block_of rest a) (committed_at rest i)
committed_at (x ∷ rest) i = committed_at rest i

-- the replicas with another one in place of that of a number
abbrev pub with_replica : List Replica → ℕ → Replica → List Replica
with_replica [] k r = []
with_replica (x ∷ xs) k r = cond (nat_eq x.number k) (r ∷ xs) (x ∷ with_replica xs k r)

-- ---- the blocks that were accepted

-- an accepted block: its partition, its number, its rows
pub record Accepted : Type 0 where
  pub partition : Option ℕ
  pub number : ℕ
  pub rows : List Row

-- the rows of a block, none where there is none
abbrev pub rows_of : Option Block → List Row
rows_of None = []
rows_of (Some b) = b.rows

-- the block of each Get of a log, the newest first: the one whose commit was answered with its place
abbrev pub blocks_in : List Entry → List (Event × Reply) → List Accepted
blocks_in [] events = []
blocks_in (Get p n digest source need ∷ log) events = record { partition = p; number = n; rows = rows_of (committed_at events (length log)) } ∷ blocks_in log events
blocks_in (Merge name sources count ∷ log) events = blocks_in log events
blocks_in (Mutate old name upto count mcount ∷ log) events = blocks_in log events
blocks_in (Mutation id numbers command ∷ log) events = blocks_in log events
blocks_in (DropRange p n ∷ log) events = blocks_in log events

-- the rows of accepted blocks by partition and number
abbrev pub rows_at : List Accepted → Blocks
rows_at [] p n = []
rows_at (b ∷ bs) p n = cond (nat_eq (rank b.partition) (rank p) && nat_eq b.number n) b.rows (rows_at bs p n)

-- the accepted blocks of a cluster
abbrev pub accepted : Cluster → List Accepted
accepted s = blocks_in s.table.log s.events

-- how many values the rows have: rows times columns
abbrev pub values_of : Shape → List Row → ℕ
values_of schema rows = length rows * length schema.columns

-- how many values the accepted blocks have
abbrev pub values_in : Shape → List Accepted → ℕ
values_in schema [] = 0
values_in schema (b ∷ bs) = values_of schema b.rows + values_in schema bs
