use Rattle.std.proofs.Common.{◌≡◌, ◌↔◌, length}
use Rattle.rmt_list.proofs.list.all_equal.Given as goal

abbrev pub invariant-items : goal.invariant-items
invariant-items g l = (l.left ≡ l.right) ↔ (l.fn.left ≡ l.fn.right)

abbrev pub decreases-items : goal.decreases-items
decreases-items g l = length l.left
