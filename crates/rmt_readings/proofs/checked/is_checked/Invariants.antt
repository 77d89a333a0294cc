use Rattle.std.proofs.Common.{ℕ, ◌≤◌, ◌<◌}
use Rattle.rmt_partset.specs.ActiveParts.{part_names}
use Rattle.rmt_readings.specs.Checks.{IsCheckedAt, IsOpen}
use Rattle.rmt_readings.proofs.checked.is_checked.Given as goal

abbrev pub invariant-places : goal.invariant-places
invariant-places l = (j : ℕ) → l.from ≤ j → j < l.i → IsOpen l.known l.replica j → IsCheckedAt l.known.log (part_names l.replica.parts) j
