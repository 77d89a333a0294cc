use Rattle.std.proofs.Common.{◌≡◌, drop}
use Rattle.rmt_values.specs.Schemas.{has_name}
use Rattle.rmt_expr.specs.Mutations.{lefts}
use Rattle.rmt_expr.proofs.mutations.sets_name.Given as goal

abbrev pub invariant-sets : goal.invariant-sets
invariant-sets l = has_name (lefts l.sets) l.name ≡ has_name (lefts (drop l.i l.sets)) l.name
