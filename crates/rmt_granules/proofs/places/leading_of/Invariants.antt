use Rattle.std.proofs.Common.{take, map}
use Rattle.std.specs.Arc.{arc_value}
use Rattle.rmt_granules.specs.Places.{LeadAll}
use Rattle.rmt_granules.proofs.places.leading_of.Given as goal

abbrev pub invariant-parts : goal.invariant-parts
invariant-parts l = LeadAll l.schema.key (take l.part-index (map arc_value l.parts)) l.leading.items
