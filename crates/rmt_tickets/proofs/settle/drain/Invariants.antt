use Rattle.std.proofs.Common.{◌≡◌, ◌++◌}
use Rattle.crossbeam_queue.specs.Passes.{view, IsPassOf}
use Rattle.rmt_tickets.specs.Tickets.{moves}
use Rattle.rmt_tickets.proofs.settle.drain.Given as goal

abbrev pub invariant-loop : goal.invariant-loop
invariant-loop g l =
    (goal.iterator-loop g).can_next l.iterator' × (goal.iterator-loop g).is_finite l.iterator'
    × IsPassOf l.ring l.pass × (view l.pass ≡ moves 8 (view l.fn.pass).put ((view l.fn.pass).taken ++ l.left.items))
