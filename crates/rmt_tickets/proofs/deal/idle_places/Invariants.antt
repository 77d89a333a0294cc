use Rattle.std.proofs.Common.{◌≡◌, ◌-◌, [], replicate}
use Rattle.rmt_tickets.specs.Tickets.{moves, place}
use Rattle.rmt_tickets.proofs.deal.idle_places.Given as goal

abbrev pub invariant-loop : goal.invariant-loop
invariant-loop g l = (l.pass ≡ moves (l.fn.pass.parts - l.counter) l.fn.pass.put l.fn.pass.taken) × (l.places.items ≡ replicate l.counter (place (moves 1 [] []) []))
