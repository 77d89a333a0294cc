use Rattle.rmt_columns.proofs.PlacesLemmas.{gather-next}
use Rattle.rmt_columns.proofs.column_values.gathered.Goals as goal

pub places-preserved : goal.places-preserved
places-preserved g c =
    rw c.in_ok-push.ensures.items (gather-next c.args.all.now _ c.places.some.items c.args.places.now c.places.place-index _ c.index-all-place.result c.places-test.true c.index-all-place.is c.places.invariant)
