use Rattle.rmt_tickets.specs.Tickets.{WorksWell}
use Rattle.rmt_tickets.proofs.tickets.Tickets.serve.Given as goal

abbrev pub invariant-turns : goal.invariant-turns
invariant-turns g l = WorksWell (g.W.Work.answered l.fn.work) l.fn.self l.self
