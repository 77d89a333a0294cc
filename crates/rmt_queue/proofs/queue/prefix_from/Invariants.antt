use Rattle.std.proofs.Common.{◌≡◌, ◌<◌, ℕ, true}
use Rattle.rmt_queue.specs.Marks.{done_at}
use Rattle.rmt_queue.proofs.queue.prefix_from.Given as goal

abbrev pub invariant-places : goal.invariant-places
invariant-places l = (k : ℕ) → k < l.i → done_at l.marks k ≡ true
