use Rattle.std.proofs.Common.{◌≡◌, map, take}
use Rattle.std.specs.Arc.{arc_value}
use Rattle.rmt_partset.specs.ActiveParts.{shown}
use Rattle.rmt_partset.proofs.part_set.named_parts.Given as goal

abbrev pub invariant-parts : goal.invariant-parts
invariant-parts l = l.all.items ≡ shown (map arc_value (take l.part-index l.parts))
