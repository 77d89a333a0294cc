use Rattle.std.proofs.Common.{◌≡◌, drop}
use Rattle.rmt_values.specs.Schemas.{names_of}
use Rattle.rmt_expr.specs.Queries.{ungrouped}
use Rattle.rmt_expr.proofs.queries.ungrouped.Given as goal

abbrev pub invariant-columns : goal.invariant-columns
invariant-columns l = ungrouped l.group (names_of l.columns) ≡ ungrouped l.group (names_of (drop l.i l.columns))
