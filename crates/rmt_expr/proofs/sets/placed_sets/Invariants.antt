use Rattle.std.proofs.Common.{◌≡◌, length}
use Rattle.rmt_expr.specs.Mutations.{type_error_in_sets}
use Rattle.rmt_expr.proofs.Progress.{SetsGoOn}
use Rattle.rmt_expr.proofs.sets.placed_sets.Given as goal

abbrev pub invariant-sets : goal.invariant-sets
invariant-sets l =
    SetsGoOn l.schema l.fn.sets l.rest l.placed.items × (type_error_in_sets l.schema l.fn.sets ≡ type_error_in_sets l.schema l.rest)

abbrev pub decreases-sets : goal.decreases-sets
decreases-sets l = length l.rest
