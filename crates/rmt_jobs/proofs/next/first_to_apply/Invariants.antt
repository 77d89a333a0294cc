use Rattle.std.proofs.Common.{◌≤◌, ◌<◌, ℕ}
use Rattle.rmt_jobs.specs.Jobs.{IsToApply}
use Rattle.rmt_jobs.proofs.next.first_to_apply.Given as goal

abbrev pub invariant-places : goal.invariant-places
invariant-places l = record {
  none : (k : ℕ) → k < l.i → IsToApply l.replica k → ⊥;
  within : l.i ≤ l.i-end;
}
