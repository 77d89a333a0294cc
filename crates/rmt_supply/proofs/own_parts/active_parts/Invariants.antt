use Rattle.std.proofs.Common.{map, take}
use Rattle.std.specs.Arc.{arc_value}
use Rattle.rmt_supply.specs.PartSources.{AreActive}
use Rattle.rmt_supply.proofs.own_parts.active_parts.Given as goal

abbrev pub invariant-names : goal.invariant-names
invariant-names l = AreActive l.replica (take l.name-index l.names) (map arc_value l.parts.items)
