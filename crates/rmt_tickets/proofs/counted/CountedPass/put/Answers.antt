use Rattle.std.proofs.Common.{ap, sym, subst, ◌∙◌, List}
use Rattle.rmt_tickets.specs.declared.rule.PassMoves.{PassMoves}
use Rattle.rmt_tickets.specs.declared.ticket.Ticket.{Ticket}
use Rattle.rmt_tickets.specs.Tickets.{Counts}
use Rattle.rmt_tickets.proofs.Counting.{counts-step}
use Rattle.rmt_tickets.proofs.counted.CountedPass.put.Goals as goal

pub invariant_of-self : goal.invariant_of-self
invariant_of-self g c = let i = c.self.invariant in let q = c.push.ensures.queue in let r = c.push.ensures.put in
    record {
      name = q.0 ∙ i.name;
      no_slot = q.2 ∙ i.no_slot;
      some_part = i.some_part;
      parts_of = ap (λ (v : PassMoves). v.parts) r ∙ i.parts_of;
      put = counts-step _ _ _ _ _ c.place.ensures c.requires.range (ap (λ (v : PassMoves). v.put) r) i.put;
      taken = subst (λ (us : List Ticket). Counts c.self.inside.takes us) (sym (ap (λ (v : PassMoves). v.taken) r)) i.taken;
    }
