use Rattle.std.proofs.Common.{◌≡◌, ◌-◌, ◌++◌}
use Rattle.rmt_columns.specs.Places.{numbers_from}
use Rattle.rmt_columns.proofs.cell_order.places_to.Given as goal

abbrev pub invariant-places : goal.invariant-places
invariant-places l = l.places.items ++ numbers_from l.place (l.count - l.place) ≡ numbers_from 0 l.count
