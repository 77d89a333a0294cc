use Rattle.std.proofs.Common.{◌≡◌, ◌-◌, ◌≤◌, drop, take}
use Rattle.rmt_model.specs.Choices.{greatest_level}
use Rattle.rmt_pick.proofs.merging.top_of.Given as goal

abbrev pub invariant-levels : goal.invariant-levels
invariant-levels l = (l.top ≡ greatest_level (take (l.count - l.i) (drop l.i l.names))) × (l.i ≤ l.count)

abbrev pub decreases-levels : goal.decreases-levels
decreases-levels l = l.i
