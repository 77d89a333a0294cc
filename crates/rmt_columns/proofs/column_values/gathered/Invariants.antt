use Rattle.std.proofs.Common.{drop}
use Rattle.rmt_columns.specs.Places.{at_places}
use Rattle.rmt_columns.proofs.PlacesLemmas.{Gathers}
use Rattle.rmt_columns.proofs.column_values.gathered.Given as goal

abbrev pub invariant-places : goal.invariant-places
invariant-places g l = Gathers l.all (at_places l.all l.places) l.some.items (drop l.place-index l.places)
