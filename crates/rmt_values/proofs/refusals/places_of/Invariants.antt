use Rattle.std.proofs.Common.{◌≡◌, take}
use Rattle.rmt_values.specs.Schemas.{places_of}
use Rattle.rmt_values.proofs.refusals.places_of.Given as goal

abbrev pub invariant-names : goal.invariant-names
invariant-names l = l.places.items ≡ places_of l.columns (take l.name-index l.names)
