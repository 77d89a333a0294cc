use Rattle.std.proofs.Common.{◌≡◌, ◌<◌, ◌≤◌, ℕ, true}
use Rattle.rmt_queue.specs.Marks.{done_at}
use Rattle.rmt_cluster.proofs.cluster.syncing.next_pending.Given as goal

abbrev pub invariant-places : goal.invariant-places
invariant-places l = (j : ℕ) → l.from ≤ j → j < l.i → done_at l.worker.done j ≡ true
