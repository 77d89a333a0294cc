-- Lists of events with their replies, worked out by hand: the definitions have to compute them.
-- No public source. Each list is on a new table of one column at two replicas, and has the newest event first, as a
-- cluster stores it. A block has one row.
use Rattle.std.specs.Prelude.{◌≡◌, ℕ, true, List, [], ◌∷◌}
use Rattle.std.specs.declared.option.Option.TheVariants.{None}
use Rattle.std.specs.declared.sync.Arc.{Arc}
use Rattle.std.specs.declared.alloc.Global.{Global}
use Rattle.std.specs.Arc.{arc_value}
use Rattle.rmt_values.specs.declared.value.Value.TheVariants.{UInt}
use Rattle.rmt_values.specs.declared.column.Column.{Column}
use Rattle.rmt_values.specs.declared.checked_mutation.CheckedMutation.{CheckedMutation}
use Rattle.rmt_values.specs.Rows.{Shape}
use Rattle.rmt_names.specs.Names.{block_name}
use Rattle.rmt_block.specs.declared.block.Block.{Block as SharedBlock}
use Rattle.rmt_events.specs.Views.{Block}
use Rattle.rmt_events.specs.Clusters.{Cluster, without_kinds}
use Rattle.rmt_events.specs.Starts.{new_replica, new_cluster}
use Rattle.rmt_events.specs.declared.event.Event.{Event}
use Rattle.rmt_events.specs.declared.reply.Reply.{Reply}
use Rattle.rmt_events.specs.declared.event.Event.TheVariants as ev
use Rattle.rmt_events.specs.declared.reply.Reply.TheVariants as rp
use Rattle.rmt_events.specs.declared.applied.Applied.TheVariants as ap_
use Rattle.rmt_events.specs.declared.step_refused.StepRefused.TheVariants as rf

-- a block as an event has it
abbrev pub Shared : Type 0
Shared = Arc SharedBlock Global

-- the block of an unpartitioned table with this one row and this digest
abbrev pub IsRow : Shared → ℕ → List ℕ → Type 0
IsRow block n digest = ◌≡◌ {A = Block} (without_kinds (arc_value block)) (record { partition = None; digest = digest; rows = (UInt n ∷ []) ∷ [] })

-- a schema with one column and a window of 100 blocks
abbrev pub of_one_column : Shape → Column → Shape
of_one_column schema column = record schema { columns = column ∷ []; window = 100 }

-- a new table at two replicas that are up
abbrev pub two_replicas : Shape → Cluster
two_replicas schema = new_cluster schema (1 ∷ 2 ∷ []) (new_replica 1 true ∷ new_replica 2 true ∷ [])

-- a mutation and a drop overtake the first block, whose lock the drop takes: it gets another number. Of two attempts of one
-- block the second is accepted, and the first is a duplicate
abbrev pub overtaken : Shared → Shared → Shared → CheckedMutation → List (Event × Reply)
overtaken one two five command =
    (ev.Commit 2, rp.Refused (rf.Duplicate (block_name None 6)))
    ∷ (ev.Commit 3, rp.Entry 4)
    ∷ (ev.Stage 3, rp.Done)
    ∷ (ev.Stage 2, rp.Done)
    ∷ (ev.Allocate 2 five 0, rp.Attempt 3 6)
    ∷ (ev.Allocate 1 five 0, rp.Attempt 2 5)
    ∷ (ev.Commit 0, rp.Entry 3)
    ∷ (ev.Stage 0, rp.Done)
    ∷ (ev.Again 0, rp.Attempt 0 4)
    ∷ (ev.Commit 0, rp.Refused (rf.LockGone 0))
    ∷ (ev.Stage 0, rp.Done)
    ∷ (ev.DropPartition None, rp.Entry 2)
    ∷ (ev.CreateMutation command, rp.Entry 1)
    ∷ (ev.Commit 1, rp.Entry 0)
    ∷ (ev.Stage 1, rp.Done)
    ∷ (ev.Allocate 2 two 0, rp.Attempt 1 1)
    ∷ (ev.Allocate 1 one 0, rp.Attempt 0 0)
    ∷ []

-- a merge of two parts is refused: a lock lies between them
abbrev pub in_flight : Shared → Shared → Shared → List (Event × Reply)
in_flight one two five =
    (ev.Merge 1 (block_name None 0 ∷ block_name None 2 ∷ []), rp.Refused (rf.InFlight 1))
    ∷ (ev.Pull 1, rp.Pulled 2)
    ∷ (ev.Commit 2, rp.Entry 1)
    ∷ (ev.Commit 0, rp.Entry 0)
    ∷ (ev.Stage 2, rp.Done)
    ∷ (ev.Stage 0, rp.Done)
    ∷ (ev.Allocate 1 five 0, rp.Attempt 2 2)
    ∷ (ev.Allocate 1 two 0, rp.Attempt 1 1)
    ∷ (ev.Allocate 1 one 0, rp.Attempt 0 0)
    ∷ []

-- a kill of the first replica between every two events of an INSERT at the second, and of a drop that takes its part away
abbrev pub killed_beside : Shared → List (Event × Reply)
killed_beside one =
    (ev.Apply 2 1, rp.Applied ap_.Installed)
    ∷ (ev.Kill 1, rp.Done)
    ∷ (ev.Apply 2 0, rp.Applied ap_.Dropped)
    ∷ (ev.Kill 1, rp.Done)
    ∷ (ev.Pull 2, rp.Pulled 2)
    ∷ (ev.Kill 1, rp.Done)
    ∷ (ev.DropPartition None, rp.Entry 1)
    ∷ (ev.Kill 1, rp.Done)
    ∷ (ev.Commit 0, rp.Entry 0)
    ∷ (ev.Kill 1, rp.Done)
    ∷ (ev.Stage 0, rp.Done)
    ∷ (ev.Kill 1, rp.Done)
    ∷ (ev.Allocate 2 one 0, rp.Attempt 0 0)
    ∷ []

-- a kill of the replica itself between every two events of its INSERT
abbrev pub killed_at : Shared → List (Event × Reply)
killed_at one =
    (ev.Pull 1, rp.Refused rf.Down)
    ∷ (ev.Kill 1, rp.Done)
    ∷ (ev.Restart 1, rp.Done)
    ∷ (ev.Kill 1, rp.Done)
    ∷ (ev.Again 0, rp.Refused rf.NoSession)
    ∷ (ev.Kill 1, rp.Done)
    ∷ (ev.Commit 0, rp.Refused (rf.LockGone 0))
    ∷ (ev.Kill 1, rp.Done)
    ∷ (ev.Stage 0, rp.Done)
    ∷ (ev.Restart 1, rp.Done)
    ∷ (ev.Kill 1, rp.Done)
    ∷ (ev.Allocate 1 one 0, rp.Attempt 0 0)
    ∷ []
