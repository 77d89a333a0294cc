use Rattle.std.proofs.Common.{◌≡◌, ◌++◌, drop}
use Rattle.rmt_columns.specs.Places.{at_places}
use Rattle.rmt_columns.proofs.texts.Texts.gather.Given as goal

abbrev pub invariant-places : goal.invariant-places
invariant-places l = l.texts ++ at_places l.self (drop l.place-index l.places) ≡ at_places l.self l.places
