use Rattle.std.proofs.Common.{inl, inr, subst}
use Rattle.rmt_tickets.specs.declared.rule.PassMoves.{PassMoves}
use Rattle.rmt_tickets.specs.Tickets.{HasLast}
use Rattle.rmt_tickets.proofs.Counting.{any-last}
use Rattle.rmt_tickets.proofs.counted.CountedPass.is_full.Goals as goal

pub returns-then-contains-clause-full : goal.returns-then-contains-clause-full
returns-then-contains-clause-full g c is = let r = any-last c.self.inside.puts _ _ c.self.invariant.put c.contains.ensures.cases is in subst (λ (v : PassMoves). HasLast v) c.self.view_is (r.0, inl r.1)

pub returns-else-contains-clause-full : goal.returns-else-contains-clause-full
returns-else-contains-clause-full g c is = let r = any-last c.self.inside.takes _ _ c.self.invariant.taken c.contains-else-contains.ensures.cases is in subst (λ (v : PassMoves). HasLast v) c.self.view_is (r.0, inr r.1)
