use Rattle.std.proofs.Common.{◌≡◌, drop}
use Rattle.rmt_expr.specs.Queries.{type_error_in_items}
use Rattle.rmt_expr.proofs.queries.type_error_in.Given as goal

abbrev pub invariant-items : goal.invariant-items
invariant-items l = type_error_in_items l.schema l.grouping l.group l.items ≡ type_error_in_items l.schema l.grouping l.group (drop l.i l.items)
