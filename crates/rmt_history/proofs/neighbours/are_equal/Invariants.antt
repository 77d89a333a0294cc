use Rattle.std.proofs.Common.{◌≡◌, ◌↔◌, length}
use Rattle.rmt_history.proofs.neighbours.are_equal.Given as goal

abbrev pub invariant-names : goal.invariant-names
invariant-names l = (l.left ≡ l.right) ↔ (l.fn.left ≡ l.fn.right)

abbrev pub decreases-names : goal.decreases-names
decreases-names l = length l.left
