use Rattle.std.proofs.Common.{◌-◌, ◌≤◌}
use Rattle.rmt_acts.specs.Inserting.{Gathered}
use Rattle.rmt_acts.proofs.gathering.gather.Given as goal

abbrev pub invariant-others : goal.invariant-others
invariant-others l = Gathered l.fn.cluster l.replica l.entry l.other l.cluster × (l.other ≤ 8)

-- proposed from the loop's first test
abbrev pub decreases-others : goal.decreases-others
decreases-others l = 8 - l.other
