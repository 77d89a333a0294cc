use Rattle.std.proofs.Common.{◌≡◌, true, take}
use Rattle.std.specs.List.{AllByRecursion}
use Rattle.rmt_values.specs.Rows.{is_value}
use Rattle.rmt_granules.proofs.order.are_short.Given as goal

abbrev pub invariant-values : goal.invariant-values
invariant-values l = AllByRecursion (λ value. is_value value ≡ true) (take l.i l.column.values)
