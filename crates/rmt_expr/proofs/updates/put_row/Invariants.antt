use Rattle.std.proofs.Common.{◌≡◌, take}
use Rattle.rmt_expr.specs.Updates.{row_with}
use Rattle.rmt_expr.proofs.updates.put_row.Given as goal

abbrev pub invariant-columns : goal.invariant-columns
invariant-columns l = l.builder ≡ record l.fn.builder { begun = take l.column (row_with l.sets l.rows.rows l.i) }
