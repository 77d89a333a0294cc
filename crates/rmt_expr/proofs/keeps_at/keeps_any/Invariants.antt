use Rattle.std.proofs.Common.{◌≡◌, drop}
use Rattle.std.specs.List.{list_any}
use Rattle.rmt_values.specs.Filters.{holds as keeps}
use Rattle.rmt_expr.proofs.keeps_at.keeps_any.Given as goal

abbrev pub invariant-rows : goal.invariant-rows
invariant-rows l = list_any (keeps l.filter) l.rows.rows ≡ list_any (keeps l.filter) (drop l.i l.rows.rows)
