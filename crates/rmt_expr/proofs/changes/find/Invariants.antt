use Rattle.std.proofs.Common.{◌≡◌, drop}
use Rattle.rmt_values.specs.Commands.{set_from}
use Rattle.rmt_expr.proofs.changes.find.Given as goal

abbrev pub invariant-sets : goal.invariant-sets
invariant-sets l = set_from l.sets l.column ≡ set_from (drop l.i l.sets) l.column
