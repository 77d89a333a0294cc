use Rattle.std.proofs.Common.{◌≡◌, ◌∙◌, ap, sym, map, slice_get, Some}
use Rattle.std.specs.Arc.{arc_value}
use Rattle.rmt_granules.proofs.MergeLemmas.{mapped-at, kinds-same, place-order, data-at}
use Rattle.rmt_granules.proofs.places.order_of_rows.Goals as goal

pub key_order-requires : goal.key_order-requires
key_order-requires c =
    let parts = map arc_value c.args.parts.now in
    let x : slice_get (map arc_value c.args.parts.now) c.args.a.part ≡ Some c.deref.result.now = mapped-at arc_value c.args.parts.now c.args.a.part _ c.index-parts-a.is c.requires.first ∙ ap Some (sym c.deref.ensures) in
    let y : slice_get (map arc_value c.args.parts.now) c.args.b.part ≡ Some c.deref-2.result.now = mapped-at arc_value c.args.parts.now c.args.b.part _ c.index-parts-b.is c.requires.second ∙ ap Some (sym c.deref-2.ensures) in
    kinds-same c.args.schema.now c.deref.result.now c.deref-2.result.now (data-at c.args.schema.now parts c.args.a.part _ c.requires.parts x) (data-at c.args.schema.now parts c.args.b.part _ c.requires.parts y)

pub returns : goal.returns
returns c =
    let parts = map arc_value c.args.parts.now in
    let x : slice_get (map arc_value c.args.parts.now) c.args.a.part ≡ Some c.deref.result.now = mapped-at arc_value c.args.parts.now c.args.a.part _ c.index-parts-a.is c.requires.first ∙ ap Some (sym c.deref.ensures) in
    let y : slice_get (map arc_value c.args.parts.now) c.args.b.part ≡ Some c.deref-2.result.now = mapped-at arc_value c.args.parts.now c.args.b.part _ c.index-parts-b.is c.requires.second ∙ ap Some (sym c.deref-2.ensures) in
    c.key_order.ensures ∙ place-order c.args.schema.now parts c.args.a c.args.b c.deref.result.now c.deref-2.result.now c.requires.parts x y
