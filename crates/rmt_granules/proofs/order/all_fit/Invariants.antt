use Rattle.std.proofs.Common.{take}
use Rattle.std.specs.List.{AllByRecursion}
use Rattle.rmt_granules.proofs.FitLemmas.{AreValues}
use Rattle.rmt_granules.proofs.order.all_fit.Given as goal

abbrev pub invariant-columns : goal.invariant-columns
invariant-columns l = AllByRecursion AreValues (take l.column-index l.columns)
