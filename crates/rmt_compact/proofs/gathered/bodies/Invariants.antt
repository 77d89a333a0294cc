use Rattle.std.proofs.Common.{◌≡◌, map, take}
use Rattle.std.specs.Arc.{arc_value}
use Rattle.rmt_model.specs.Words.{Each}
use Rattle.rmt_part.specs.Lineages.{IsPart}
use Rattle.rmt_compact.specs.NewParts.{bodies_of}
use Rattle.rmt_compact.proofs.gathered.bodies.Given as goal

abbrev pub invariant-parts : goal.invariant-parts
invariant-parts l =
    (map arc_value l.all.items ≡ bodies_of (map arc_value (take l.part-index l.parts)))
    × Each IsPart (map arc_value (take l.part-index l.parts))
