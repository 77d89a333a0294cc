use Rattle.std.proofs.Common.{ap, sym, ◌∙◌}
use Rattle.rmt_tickets.specs.declared.rule.PassMoves.{PassMoves}
use Rattle.rmt_tickets.specs.Tickets.{times}
use Rattle.rmt_tickets.proofs.Counting.{dealt-room}
use Rattle.rmt_tickets.proofs.deal.put_row.Goals as goal

pub put-requires-clause-room : goal.put-requires-clause-room
put-requires-clause-room g c last = dealt-room c.new.result c.args.table c.args.replicas c.loop-replica.replica (sym (ap (λ (v : PassMoves). times c.new.result v.put) c.loop-replica.invariant) ∙ last)
