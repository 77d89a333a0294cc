use Rattle.std.proofs.Common.{◌≡◌, ◌++◌, drop}
use Rattle.rmt_values.specs.Commands.{updated_from}
use Rattle.rmt_expr.proofs.changes.updated.Given as goal

abbrev pub invariant-columns : goal.invariant-columns
invariant-columns l = updated_from 0 l.sets l.row l.row ≡ l.new.items ++ updated_from l.i l.sets l.row (drop l.i l.row)
