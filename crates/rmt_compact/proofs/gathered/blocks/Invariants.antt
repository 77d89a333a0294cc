use Rattle.std.proofs.Common.{◌≡◌, map, take}
use Rattle.std.specs.Arc.{arc_value}
use Rattle.rmt_compact.specs.NewParts.{blocks_joined}
use Rattle.rmt_compact.proofs.gathered.blocks.Given as goal

abbrev pub invariant-parts : goal.invariant-parts
invariant-parts l = l.all.items ≡ blocks_joined (map arc_value (take l.part-index l.parts))
