use Rattle.std.proofs.Common.{◌≡◌, subst, ap, sym, ◌∙◌, map, slice_get, Some, take, ◌+◌}
use Rattle.std.specs.Arc.{arc_value}
use Rattle.rmt_granules.specs.Places.{LeadAll}
use Rattle.rmt_granules.proofs.MergeLemmas.{mapped-at}
use Rattle.rmt_granules.proofs.LeadingLemmas.{lead-more, lead-key}
use Rattle.rmt_granules.proofs.places.leading_of.Goals as goal

pub parts-preserved : goal.parts-preserved
parts-preserved c =
    let parts = map arc_value c.args.parts.now in
    let x : slice_get (map arc_value c.args.parts.now) c.parts.part-index ≡ Some c.deref.result.now = mapped-at arc_value c.args.parts.now c.parts.part-index _ c.part-item.is c.parts-test.true ∙ ap Some (sym c.deref.ensures) in
    subst (LeadAll c.args.schema.now.key (take (c.parts.part-index + 1) parts)) (sym c.in_ok-push.ensures.items)
    (lead-more c.args.schema.now.key parts c.parts.leading.items c.parts.part-index _ c.leading_numbers.result x c.parts.invariant
    (lead-key c.args.schema.now parts c.parts.part-index _ c.leading_numbers.result.now c.requires x c.leading_numbers.ensures))
