-- What a contract sees of a queue that has no ticket yet.
use Rattle.std.specs.Prelude.{ℕ}
use Rattle.atomic_table.specs.Seated.{TableId}
use Rattle.crossbeam_queue.specs.Passes.{ruled_capacity}
use Rattle.rmt_tickets.specs.declared.queue.BlankQueue.{BlankQueue}

-- the name of a queue, by which its passes are told from those of another
abbrev pub name_of : BlankQueue → TableId
name_of b = b.ring.table.shared.table_id

-- how many tickets it has room for
abbrev pub room_of : BlankQueue → ℕ
room_of b = ruled_capacity b.ring
