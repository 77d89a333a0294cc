use Rattle.std.proofs.Common.{◌≡◌, drop}
use Rattle.rmt_expr.specs.Mutations.{fixed_in_sets}
use Rattle.rmt_expr.proofs.mutations.fixed_set.Given as goal

abbrev pub invariant-sets : goal.invariant-sets
invariant-sets l = fixed_in_sets l.schema l.sets ≡ fixed_in_sets l.schema (drop l.i l.sets)
