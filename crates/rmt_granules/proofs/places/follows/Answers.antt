use Rattle.std.proofs.Common.{◌≡◌, ◌+◌, ◌-◌, ◌<◌, ◌∙◌, ap, sym, map, arith, length, false, slice_index_or}
use Rattle.std.specs.Arc.{arc_value}
use Rattle.std.specs.Ordering.{is_gt}
use Rattle.rmt_granules.specs.declared.place.Place.{Place}
use Rattle.rmt_granules.specs.Places.{place_cmp}
use Rattle.rmt_granules.proofs.MergeLemmas.{AreOf-at, itself-at, place-total, not-true}
use Rattle.rmt_granules.proofs.MergeStep.{merge-joined}
use Rattle.rmt_granules.proofs.places.follows.Goals as goal

abbrev none : Place
none = record { part = 0; row = 0 }

pub order_of_places-order-requires-clause-first : goal.order_of_places-order-requires-clause-first
order_of_places-order-requires-clause-first c =
    let h : length c.args.left.now - 1 < length c.args.left.now = omega arith in
    AreOf-at (length c.args.parts.now) c.args.left.now (length c.args.left.now - 1) _ c.requires.left_there h (itself-at c.args.left.now (length c.args.left.now - 1) none h)

pub returns : goal.returns
returns c = λ follows.
    let shape = c.args.schema.now in
    let parts = map arc_value c.args.parts.now in
    let h : length c.args.left.now - 1 < length c.args.left.now = omega arith in
    let e : length c.args.left.now - 1 + 1 ≡ length c.args.left.now = omega arith in
    let r : 0 < length c.args.right.now = omega arith in
    let below : is_gt (place_cmp c.args.schema.now.key (map arc_value c.args.parts.now) (slice_index_or c.args.left.now (length c.args.left.now - 1) none) (slice_index_or c.args.right.now 0 none)) ≡ false = sym (ap is_gt c.order_of_places-order.ensures) ∙ (sym c.is_gt.ensures ∙ not-true c.is_gt.result follows) in
    merge-joined (place_cmp shape.key parts) (place-total shape parts) c.args.left.now c.args.right.now (length c.args.left.now - 1) _ _ c.requires.left_ordered c.requires.right_ordered e r (itself-at c.args.left.now (length c.args.left.now - 1) none h) (itself-at c.args.right.now 0 none r) below
