use Rattle.std.proofs.Common.{◌≡◌, ◌++◌}
use Rattle.rmt_tickets.specs.Tickets.{moves, row, dealt}
use Rattle.rmt_tickets.proofs.deal.put_row.Given as goal

abbrev pub invariant-loop-replica : goal.invariant-loop-replica
invariant-loop-replica g l = l.pass ≡ moves l.fn.pass.parts (dealt l.table l.replicas ++ row l.table l.replica) l.fn.pass.taken
