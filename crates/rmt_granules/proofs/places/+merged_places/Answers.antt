use Rattle.std.proofs.Common.{refl, ◌∙◌, ◌+◌, ◌-◌, ◌/◌, ap, sym, arith, map, take, drop, Some}
use Rattle.rmt_granules.specs.Places.{all_places}
use Rattle.std.specs.Arc.{arc_value}
use Rattle.std.proofs.lemmas.List.{length-map}
use Rattle.rmt_granules.proofs.MergeLemmas.{mapped-at, still-ordered, two-made, one-made, there-made}
use Rattle.rmt_granules.proofs.places.+merged_places.Goals as goal

pub returns-then-count-eq1-clause-order : goal.returns-then-count-eq1-clause-order
returns-then-count-eq1-clause-order t c =
    let h = c.requires.there in let i = c.if-count-eq1.true in
    one-made c.args.schema.now (map arc_value c.args.parts.now) c.args.first c.args.count _ c.deref.result.now _ c.requires.parts c.if-count-eq1.true
    (mapped-at arc_value c.args.parts.now c.args.first _ c.index-parts-first.is (omega (arith, h, i)) ∙ ap Some (sym c.deref.ensures)) c.rows.ensures c.in_ok-places.ensures

pub returns-then-count-eq1-clause-there : goal.returns-then-count-eq1-clause-there
returns-then-count-eq1-clause-there t c =
    let h = c.requires.there in let i = c.if-count-eq1.true in
    there-made c.args.schema.now (map arc_value c.args.parts.now) c.args.first c.args.count _ _ c.requires.there (sym (length-map c.args.parts.now arc_value))
    (one-made c.args.schema.now (map arc_value c.args.parts.now) c.args.first c.args.count _ c.deref.result.now _ c.requires.parts c.if-count-eq1.true
    (mapped-at arc_value c.args.parts.now c.args.first _ c.index-parts-first.is (omega (arith, h, i)) ∙ ap Some (sym c.deref.ensures)) c.rows.ensures c.in_ok-places.ensures)

pub merged_two-requires-clause-left_ordered : goal.merged_two-requires-clause-left_ordered
merged_two-requires-clause-left_ordered t c =
    still-ordered c.args.schema.now (map arc_value c.args.parts.now) (all_places c.args.first (take (c.args.count / 2) (drop c.args.first (map arc_value c.args.parts.now)))) _ _ refl c.in_ok-left.ensures.order

pub merged_two-requires-clause-right_ordered : goal.merged_two-requires-clause-right_ordered
merged_two-requires-clause-right_ordered t c =
    still-ordered c.args.schema.now (map arc_value c.args.parts.now) (all_places (c.args.first + c.args.count / 2) (take (c.args.count - c.args.count / 2) (drop (c.args.first + c.args.count / 2) (map arc_value c.args.parts.now)))) _ _ c.deref-2.ensures.value c.in_ok-right.ensures.order

pub returns-clause-order : goal.returns-clause-order
returns-clause-order t c =
    let n = length-map c.args.parts.now arc_value in let h = c.requires.there in
    two-made c.args.schema.now (map arc_value c.args.parts.now) c.args.first (c.args.count / 2) c.args.count _ _ _ _ _ (omega arith) (omega (arith, n, h)) refl c.deref-2.ensures.value c.in_ok-left.ensures.order c.in_ok-right.ensures.order c.in_ok-places-2.ensures

pub returns-clause-there : goal.returns-clause-there
returns-clause-there t c =
    let n = length-map c.args.parts.now arc_value in let h = c.requires.there in
    there-made c.args.schema.now (map arc_value c.args.parts.now) c.args.first c.args.count _ _ c.requires.there (sym n)
    (two-made c.args.schema.now (map arc_value c.args.parts.now) c.args.first (c.args.count / 2) c.args.count _ _ _ _ _ (omega arith) (omega (arith, n, h)) refl c.deref-2.ensures.value c.in_ok-left.ensures.order c.in_ok-right.ensures.order c.in_ok-places-2.ensures)
