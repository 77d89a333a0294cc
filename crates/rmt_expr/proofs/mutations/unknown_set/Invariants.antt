use Rattle.std.proofs.Common.{◌≡◌, drop}
use Rattle.rmt_expr.specs.Mutations.{unknown_in_sets}
use Rattle.rmt_expr.proofs.mutations.unknown_set.Given as goal

abbrev pub invariant-sets : goal.invariant-sets
invariant-sets l = unknown_in_sets l.schema l.sets ≡ unknown_in_sets l.schema (drop l.i l.sets)
