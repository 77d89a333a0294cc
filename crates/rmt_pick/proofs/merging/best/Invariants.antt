use Rattle.std.proofs.Common.{◌≡◌, ◌≤◌, drop, length}
use Rattle.rmt_model.specs.Choices.{run_at, best_run}
use Rattle.rmt_pick.specs.Runs.{StandsFor}
use Rattle.rmt_pick.proofs.ChoiceLemmas.{first_version}
use Rattle.rmt_pick.proofs.merging.best.Given as goal

abbrev pub invariant-names : goal.invariant-names
invariant-names l = record {
  best : StandsFor l.names l.best (best_run l.copy.log l.most (drop l.i l.names));
  count : l.count ≡ length (run_at l.copy.log l.most (drop l.i l.names));
  version : l.version ≡ first_version l.copy.log (drop l.i l.names);
  within : l.i ≤ length l.names;
}

abbrev pub decreases-names : goal.decreases-names
decreases-names l = l.i
