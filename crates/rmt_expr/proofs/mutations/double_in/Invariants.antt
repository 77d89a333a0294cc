use Rattle.std.proofs.Common.{◌≡◌, length}
use Rattle.rmt_values.specs.Schemas.{first_double}
use Rattle.rmt_expr.specs.Mutations.{lefts}
use Rattle.rmt_expr.proofs.mutations.double_in.Given as goal

abbrev pub invariant-sets : goal.invariant-sets
invariant-sets l = first_double (lefts l.fn.sets) ≡ first_double (lefts l.rest)

abbrev pub decreases-sets : goal.decreases-sets
decreases-sets l = length l.rest
