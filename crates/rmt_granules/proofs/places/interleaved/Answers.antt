use Rattle.std.proofs.Common.{true, false, ◌≡◌, ◌++◌, ◌+◌, ◌∙◌, ap, sym, map, List, drop, arith, inl, inr, slice_index_or, length}
use Rattle.std.specs.Arc.{arc_value}
use Rattle.std.specs.Ordering.{is_gt}
use Rattle.rmt_values.specs.Order.{in_order}
use Rattle.rmt_granules.proofs.MergeStep.{merge-first, merge-second, merge-end}
use Rattle.rmt_granules.specs.declared.place.Place.{Place}
use Rattle.rmt_granules.specs.Places.{place_cmp}
use Rattle.rmt_granules.proofs.MergeLemmas.{AreOf-at, itself-at, place-total}
use Rattle.rmt_granules.proofs.places.interleaved.Goals as goal
use Rattle.rmt_granules.proofs.places.interleaved.Goals.{then-heads-test+else-j-right, else-heads-test}

abbrev none : Place
none = record { part = 0; row = 0 }

pub order_of_places-order-requires-clause-first : goal.order_of_places-order-requires-clause-first
order_of_places-order-requires-clause-first c =
    AreOf-at (length c.args.parts.now) c.args.left.now c.heads.i _ c.requires.left_there c.heads-test.true (itself-at c.args.left.now c.heads.i _ c.heads-test.true)

pub order_of_places-order-requires-clause-second : goal.order_of_places-order-requires-clause-second
order_of_places-order-requires-clause-second c =
    AreOf-at (length c.args.parts.now) c.args.right.now c.heads.j _ c.requires.right_there c.if-j-right.true (itself-at c.args.right.now c.heads.j _ c.if-j-right.true)

pub heads-preserved-then-is_gt : goal.heads-preserved-then-is_gt
heads-preserved-then-is_gt c =
    let parts = map arc_value c.args.parts.now in
    let shape = c.args.schema.now in
    let above : is_gt (place_cmp c.args.schema.now.key (map arc_value c.args.parts.now) (slice_index_or c.args.left.now c.heads.i none) (slice_index_or c.args.right.now c.heads.j none)) ≡ true = sym (ap is_gt c.order_of_places-order.ensures) ∙ (sym c.is_gt.ensures ∙ c.if-is_gt.true) in
    let h = c.if-j-right.true in (
      ap (λ (ps : List Place). ps ++ in_order (place_cmp c.args.schema.now.key (map arc_value c.args.parts.now)) (drop c.heads.i c.args.left.now ++ drop (c.heads.j + 1) c.args.right.now)) c.in_ok-push.ensures.items
          ∙ merge-second (place_cmp shape.key parts) (place-total shape parts) c.heads.merged.items c.args.left.now c.args.right.now _ c.heads.i c.heads.j _ _ c.requires.left_ordered c.requires.right_ordered (itself-at c.args.left.now c.heads.i none c.heads-test.true) (itself-at c.args.right.now c.heads.j none h) c.heads-test.true h above c.heads.invariant.0,
      c.heads.invariant.1,
      omega (arith, h),
    )

pub heads-preserved : goal.heads-preserved
heads-preserved c =
    let parts = map arc_value c.args.parts.now in
    let shape = c.args.schema.now in
    let below : is_gt (place_cmp c.args.schema.now.key (map arc_value c.args.parts.now) (slice_index_or c.args.left.now c.heads.i none) (slice_index_or c.args.right.now c.heads.j none)) ≡ false = sym (ap is_gt c.order_of_places-order.ensures) ∙ (sym c.is_gt.ensures ∙ c.if-is_gt.false) in
    let h = c.heads-test.true in (
      ap (λ (ps : List Place). ps ++ in_order (place_cmp c.args.schema.now.key (map arc_value c.args.parts.now)) (drop (c.heads.i + 1) c.args.left.now ++ drop c.heads.j c.args.right.now)) c.in_ok-push-2.ensures.items
          ∙ merge-first (place_cmp shape.key parts) (place-total shape parts) c.heads.merged.items c.args.left.now c.args.right.now _ c.heads.i c.heads.j _ _ c.requires.left_ordered c.requires.right_ordered (itself-at c.args.left.now c.heads.i none h) (itself-at c.args.right.now c.heads.j none c.if-j-right.true) h c.if-j-right.true below c.heads.invariant.0,
      omega (arith, h),
      c.heads.invariant.2,
    )

extended : (out first second front back : List Place) (x y : List Place) → first ≡ out ++ x → second ≡ first ++ y → x ≡ front → y ≡ back → second ≡ (out ++ front) ++ back
extended out first second front back x y e f g h = cc

pub returns : goal.returns
returns c =
    let parts = map arc_value c.args.parts.now in
    let shape = c.args.schema.now in
    let ends = merge-end (place_cmp shape.key parts) (place-total shape parts) c.heads.merged.items c.args.left.now c.args.right.now (in_order (place_cmp shape.key parts) (c.args.left.now ++ c.args.right.now)) c.heads.i c.heads.j c.requires.left_ordered c.requires.right_ordered in
    extended c.heads.merged.items _ _ (drop c.heads.i c.args.left.now) (drop c.heads.j c.args.right.now) _ _ c.in_ok-extend_from_slice.ensures.items c.in_ok-extend_from_slice-2.ensures.items c.split_at.ensures.back c.split_at-2.ensures.back
    ∙ ends (elim c.heads-test.branch [ then-heads-test+else-j-right w ↦ inr w.if-j-right.false | else-heads-test w ↦ inl w.heads-test.false ]) c.heads.invariant.0
