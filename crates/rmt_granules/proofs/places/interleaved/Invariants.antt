use Rattle.std.proofs.Common.{length, map, drop, ◌-◌, ◌+◌, ◌≡◌, ◌≤◌, ◌++◌}
use Rattle.std.specs.Arc.{arc_value}
use Rattle.rmt_values.specs.Order.{in_order}
use Rattle.rmt_granules.specs.Places.{place_cmp}
use Rattle.rmt_granules.proofs.places.interleaved.Given as goal

abbrev pub invariant-heads : goal.invariant-heads
invariant-heads l =
    (l.merged.items ++ in_order (place_cmp l.schema.key (map arc_value l.parts)) (drop l.i l.left ++ drop l.j l.right) ≡ in_order (place_cmp l.schema.key (map arc_value l.parts)) (l.left ++ l.right))
    × (l.i ≤ length l.left) × (l.j ≤ length l.right)

abbrev pub decreases-heads : goal.decreases-heads
decreases-heads l = (length l.left - l.i) + (length l.right - l.j)
