use Rattle.std.proofs.Common.{take}
use Rattle.rmt_model.specs.Words.{Has, Each}
use Rattle.rmt_partset.specs.ActiveParts.{part_names}
use Rattle.rmt_replica.proofs.replica.Replica.first_inactive.Given as goal

abbrev pub invariant-names : goal.invariant-names
invariant-names l = Each (Has (part_names l.self.parts)) (take l.name-index l.names)
