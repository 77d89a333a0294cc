-- What is kept of a pass and its counts.
-- No public clause cites this module.
use Rattle.std.specs.Prelude.{◌≡◌, ℕ, ◌<◌, List, []}
use Rattle.atomic_table.specs.Seated.{TableId}
use Rattle.crossbeam_queue.specs.Passes.{Pass, view}
use Rattle.rmt_tickets.specs.declared.ticket.Ticket.{Ticket}
use Rattle.rmt_tickets.specs.declared.rule.PassMoves.{PassMoves}
use Rattle.rmt_tickets.specs.Tickets.{Counts}

-- the pass is of this queue and has some parts, and the counts are of the tickets that it put and took
pub record IsCounted (queue : TableId) (pass : Pass Ticket PassMoves) (parts : ℕ) (puts takes : List ℕ) : Type 0 where
  pub name : pass.table_id ≡ queue
  pub no_slot : pass.me.1 ≡ []
  pub some_part : 0 < parts
  pub parts_of : (view pass).parts ≡ parts
  pub put : Counts puts (view pass).put
  pub taken : Counts takes (view pass).taken
