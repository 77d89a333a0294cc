use Rattle.std.proofs.Common.{ap, sym, subst, ◌∙◌, List, arith}
use Rattle.rmt_tickets.specs.declared.rule.PassMoves.{PassMoves}
use Rattle.rmt_tickets.specs.declared.ticket.Ticket.{Ticket}
use Rattle.rmt_tickets.specs.Tickets.{Counts}
use Rattle.rmt_tickets.proofs.Moves.{takes}
use Rattle.rmt_tickets.proofs.Counting.{counts-step}
use Rattle.rmt_tickets.proofs.counted.CountedPass.take.Goals as goal

pub try_pop_as-requires-clause-rule : goal.try_pop_as-requires-clause-rule
try_pop_as-requires-clause-rule g c = takes _ _ (omega (arith, c.self.invariant.some_part, c.self.invariant.parts_of))

pub invariant_of-self-2 : goal.invariant_of-self-2
invariant_of-self-2 g c = let i = c.self.invariant in let q = c.in_ok-ticket.ensures.queue in let r = c.in_ok-ticket.ensures.rule in
    record {
      name = q.0 ∙ i.name;
      no_slot = q.2 ∙ i.no_slot;
      some_part = i.some_part;
      parts_of = ap (λ (v : PassMoves). v.parts) r.0 ∙ i.parts_of;
      put = subst (λ (us : List Ticket). Counts c.self.inside.puts us) (sym (ap (λ (v : PassMoves). v.put) r.0)) i.put;
      taken = counts-step _ _ _ _ _ c.place.ensures r.1 (ap (λ (v : PassMoves). v.taken) r.0) i.taken;
    }
