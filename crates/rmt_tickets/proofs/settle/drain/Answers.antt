use Rattle.std.proofs.Common.{List, ◌++◌, ap, sym, ◌∙◌, arith}
use Rattle.crossbeam_queue.specs.Passes.{view}
use Rattle.rmt_tickets.specs.Tickets.{moves}
use Rattle.rmt_tickets.specs.declared.ticket.Ticket.{Ticket}
use Rattle.rmt_tickets.specs.declared.rule.PassMoves.{PassMoves}
use Rattle.rmt_tickets.proofs.Moves.{takes, learns}
use Rattle.rmt_tickets.proofs.Gathering.{drained}
use Rattle.rmt_tickets.proofs.settle.drain.Goals as goal

pub pop_as-requires-clause-rule : goal.pop_as-requires-clause-rule
pop_as-requires-clause-rule g c = let e = ap (λ (v : PassMoves). v.parts) c.loop.invariant.3 in (takes _ _ (omega (arith, e)), learns _ _ e)

pub returns-in-None-pop_as : goal.returns-in-None-pop_as
returns-in-None-pop_as g c =
    let same = ap (λ (us : List Ticket). moves 8 (view c.args.pass).put ((view c.args.pass).taken ++ us)) (sym c.reserve.ensures.items) in
    drained (view c.args.pass) (view c.loop.pass) c.reserve.new.self.items (c.loop.invariant.3 ∙ same) c.in-None-pop_as.ensures.rule.1
