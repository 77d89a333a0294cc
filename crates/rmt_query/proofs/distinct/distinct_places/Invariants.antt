use Rattle.std.proofs.Common.{take}
use Rattle.rmt_query.specs.Distinct.{OrderTuplesAlike}
use Rattle.rmt_query.proofs.PlaceLemmas.{AreFlagged}
use Rattle.rmt_query.proofs.distinct.distinct_places.Given as goal

abbrev pub invariant-places : goal.invariant-places
invariant-places l = AreFlagged l.seen l.places.items l.items × OrderTuplesAlike l.places.items l.items (take l.place l.items)
