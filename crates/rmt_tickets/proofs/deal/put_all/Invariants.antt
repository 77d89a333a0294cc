use Rattle.std.proofs.Common.{◌≡◌}
use Rattle.rmt_tickets.specs.Tickets.{moves, dealt}
use Rattle.rmt_tickets.proofs.deal.put_all.Given as goal

abbrev pub invariant-loop-table : goal.invariant-loop-table
invariant-loop-table g l = l.pass ≡ moves l.fn.pass.parts (dealt l.table l.replicas) l.fn.pass.taken
