-- What is known while the passes of all places are joined.
-- No public clause cites this module.
use Rattle.std.specs.Prelude.{◌≡◌, ◌+◌, List}
use Rattle.rmt_tickets.specs.declared.ticket.Ticket.{Ticket}
use Rattle.rmt_tickets.specs.declared.rule.PassMoves.{PassMoves}
use Rattle.rmt_tickets.specs.Tickets.{Place, times, all_put, all_taken, all_begun, all_parts}

-- the pass has what all these places put and took, but for the rest of them
pub record Gathers (all rest : List Place) (v : PassMoves) : Type 0 where
  pub parts : v.parts + all_parts rest ≡ all_parts all
  pub put : (t : Ticket) → times t v.put + all_put t rest ≡ all_put t all
  pub taken : (t : Ticket) → times t v.taken + all_taken t rest ≡ all_taken t all
  pub even : (t : Ticket) → times t v.put + all_begun t rest ≡ times t v.taken + all_begun t all
