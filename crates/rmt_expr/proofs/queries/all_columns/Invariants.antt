use Rattle.std.proofs.Common.{◌≡◌, ◌++◌, ◌≤◌, length, drop}
use Rattle.rmt_expr.specs.Queries.{all_from}
use Rattle.rmt_expr.proofs.queries.all_columns.Given as goal

abbrev pub invariant-columns : goal.invariant-columns
invariant-columns l =
    (all_from 0 l.schema.columns ≡ l.all.items ++ all_from l.i (drop l.i l.schema.columns))
    × (l.i-end ≡ length l.schema.columns)
    × (l.i-end ≤ 64)
