use Rattle.std.proofs.Common.{◌≡◌, ◌-◌, ◌++◌}
use Rattle.rmt_granules.specs.Places.{places_from}
use Rattle.rmt_granules.proofs.places.places_of.Given as goal

abbrev pub invariant-rows : goal.invariant-rows
invariant-rows l = l.places.items ++ places_from l.part l.row (l.rows - l.row) ≡ places_from l.part 0 l.rows
