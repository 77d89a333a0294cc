use Rattle.std.proofs.Common.{◌∙◌, ◌-◌, ap, sym, arith, length, map, Some}
use Rattle.std.specs.Arc.{arc_value}
use Rattle.std.proofs.lemmas.List.{length-map}
use Rattle.rmt_granules.proofs.MergeLemmas.{mapped-at}
use Rattle.rmt_compact.proofs.GatheredLemmas.{last-most, front-more, front-fewer, most-found}
use Rattle.rmt_compact.proofs.gathered.most_mutations.Goals as goal

pub parts-init : goal.parts-init
parts-init c =
    let n = length-map c.args.parts.now arc_value in let h = c.requires in
    (last-most (map arc_value c.args.parts.now) (length c.args.parts.now - 1) (omega (arith, n, h)), omega (arith, h), omega (arith, h))

pub parts-preserved-then-count_of : goal.parts-preserved-then-count_of
parts-preserved-then-count_of c =
    let i = c.parts-test.true in let w = c.parts.invariant.1 in
    let s = mapped-at arc_value c.args.parts.now c.parts.best _ c.index-parts-best.is c.parts.invariant.2 ∙ ap Some (sym c.deref.ensures) in
    let t = mapped-at arc_value c.args.parts.now (c.parts.i - 1) _ c.index-parts-i.is (omega (arith, i, w)) ∙ ap Some (sym c.deref-in-parts.ensures) in
    let e = c.count_of.ensures in let f = c.count_of-in-parts.ensures in let g = c.if-count_of.true in
    (front-more (map arc_value c.args.parts.now) c.parts.i (c.parts.i - 1) c.parts.best _ _ (omega (arith, i)) s t c.parts.invariant.0 (omega (arith, e, f, g)), omega (arith, i, w), omega (arith, i, w))

pub parts-preserved : goal.parts-preserved
parts-preserved c =
    let i = c.parts-test.true in let w = c.parts.invariant.1 in
    let s = mapped-at arc_value c.args.parts.now c.parts.best _ c.index-parts-best.is c.parts.invariant.2 ∙ ap Some (sym c.deref.ensures) in
    let t = mapped-at arc_value c.args.parts.now (c.parts.i - 1) _ c.index-parts-i.is (omega (arith, i, w)) ∙ ap Some (sym c.deref-in-parts.ensures) in
    let e = c.count_of.ensures in let f = c.count_of-in-parts.ensures in let g = c.if-count_of.false in
    (front-fewer (map arc_value c.args.parts.now) c.parts.i (c.parts.i - 1) c.parts.best _ _ (omega (arith, i)) s t c.parts.invariant.0 (omega (arith, e, f, g)), omega (arith, i, w), c.parts.invariant.2)

pub returns : goal.returns
returns c =
    let s = mapped-at arc_value c.args.parts.now c.parts.best _ c.index-parts-best-2.is c.parts.invariant.2 ∙ ap Some (sym c.deref-2.ensures) in
    c.in_ok-tokens.ensures ∙ (c.mutations.ensures ∙ most-found (map arc_value c.args.parts.now) c.parts.i c.parts.best _ c.parts-test.false s c.parts.invariant.0)
