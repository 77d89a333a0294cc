use Rattle.std.proofs.Common.{length}
use Rattle.rmt_values.proofs.NameSets.{IsWalked}
use Rattle.rmt_values.proofs.name_sets.first_double.Given as goal

abbrev pub invariant-names : goal.invariant-names
invariant-names l = IsWalked l.fn.names l.rest l.later l.double

abbrev pub decreases-names : goal.decreases-names
decreases-names l = length l.rest
