use Rattle.std.proofs.Common.{◌≡◌, ◌<◌, vec_len}
use Rattle.crossbeam_queue.specs.Passes.{view, IsPassOf}
use Rattle.rmt_tickets.specs.Gathers.{Gathers}
use Rattle.rmt_tickets.proofs.settle.gather.Given as goal

abbrev pub invariant-loop-place : goal.invariant-loop-place
invariant-loop-place g l = IsPassOf l.queue.ring l.pass × ((view l.pass).parts ≡ l.parts) × (0 < l.parts) × Gathers l.fn.places.items l.places.items (view l.pass)

abbrev pub decreases-loop-place : goal.decreases-loop-place
decreases-loop-place g l = vec_len l.places
