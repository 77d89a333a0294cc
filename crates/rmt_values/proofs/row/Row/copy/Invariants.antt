use Rattle.std.proofs.Common.{◌≡◌, take}
use Rattle.rmt_values.proofs.row.Row.copy.Given as goal

abbrev pub invariant-values : goal.invariant-values
invariant-values l = l.values.items ≡ take l.value-index l.all
