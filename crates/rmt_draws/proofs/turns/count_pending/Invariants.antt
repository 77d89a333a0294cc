use Rattle.std.proofs.Common.{◌≡◌, ◌+◌, ◌≤◌, length}
use Rattle.rmt_events.specs.Draws.{pending_from}
use Rattle.rmt_draws.proofs.PendingLemmas.{pending_after}
use Rattle.rmt_draws.proofs.turns.count_pending.Given as goal

abbrev pub invariant-places : goal.invariant-places
invariant-places l = record {
  counted : l.count + length (pending_after l.worker.done l.i) ≡ length (pending_from l.worker.done 0);
  within : l.i ≤ l.i-end;
}
