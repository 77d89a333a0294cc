use Rattle.std.proofs.Common.{◌≡◌, ◌≤◌, ◌-◌, ◌++◌, drop, map, length}
use Rattle.rmt_values.specs.Rows.{key_cmp}
use Rattle.rmt_values.proofs.Sorting.{Up}
use Rattle.rmt_values.proofs.Totals.{key_cmp_total}
use Rattle.rmt_query.specs.Answers.{groups_of}
use Rattle.rmt_query.proofs.runs.tuples_of_runs.Given as goal

abbrev pub invariant-runs : goal.invariant-runs
invariant-runs l =
    Up (key_cmp l.group) (key_cmp_total l.group) (drop l.first l.rows)
    × (l.tuples.items ++ map (λ g. g.1) (groups_of l.items l.group (drop l.first l.rows)) ≡ map (λ g. g.1) (groups_of l.items l.group l.rows))
    × (l.first ≤ length l.rows)

abbrev pub decreases-runs : goal.decreases-runs
decreases-runs l = length l.rows - l.first
