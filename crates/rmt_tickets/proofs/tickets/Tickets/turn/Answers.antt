use Rattle.rmt_tickets.specs.Tickets.{dealt}
use Rattle.rmt_tickets.proofs.Gathering.{even-turn}
use Rattle.rmt_tickets.proofs.tickets.Tickets.turn.Goals as goal

pub invariant_of-self-2 : goal.invariant_of-self-2
invariant_of-self-2 g c = even-turn _ _ _ (dealt c.self.inside.tables c.self.inside.replicas) _ c.in-Some.ensures.0 c.put.ensures c.self.invariant
