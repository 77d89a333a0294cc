use Rattle.std.proofs.Common.{ap, sym, subst, replicate, List}
use Rattle.rmt_tickets.specs.declared.rule.PassMoves.{PassMoves}
use Rattle.rmt_tickets.specs.declared.ticket.Ticket.{Ticket}
use Rattle.rmt_tickets.specs.Tickets.{Counts}
use Rattle.rmt_tickets.proofs.Counting.{counts-none}
use Rattle.rmt_tickets.proofs.counted.CountedPass.new.Goals as goal

pub invariant_of-result : goal.invariant_of-result
invariant_of-result g c = let e = c.requires.nothing in
    let none : (f : PassMoves → List Ticket) → _ = λ f. subst (λ (us : List Ticket). Counts (replicate 32 0) us) (sym (ap f e)) in
    record {
      name = c.requires.name.0;
      no_slot = c.requires.name.1;
      some_part = c.requires.parts;
      parts_of = ap (λ (v : PassMoves). v.parts) e;
      put = none (λ v. v.put) counts-none;
      taken = none (λ v. v.taken) counts-none;
    }
