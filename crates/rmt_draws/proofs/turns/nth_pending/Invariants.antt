use Rattle.std.proofs.Common.{◌≡◌, ◌≤◌}
use Rattle.std.specs.Prelude.{slice_get}
use Rattle.rmt_events.specs.Draws.{pending_from}
use Rattle.rmt_draws.proofs.PendingLemmas.{pending_after}
use Rattle.rmt_draws.proofs.turns.nth_pending.Given as goal

abbrev pub invariant-places : goal.invariant-places
invariant-places l = record {
  left : slice_get (pending_after l.worker.done l.i) l.left ≡ slice_get (pending_from l.worker.done 0) l.n;
  within : l.i ≤ l.i-end;
}
