use Rattle.std.proofs.Common.{◌+◌, ◌-◌, ◌/◌, ◌<◌, length, sym, ap, arith, ◌∙◌}
use Rattle.std.proofs.lemmas.List.{length-map}
use Rattle.std.specs.declared.option.Option.TheVariants.{Some}
use Rattle.rmt_partset.specs.Snapshots.{NamedData, names_in}
use Rattle.rmt_known.proofs.CoveringLemmas.{name-at, none-before, none-after}
use Rattle.rmt_known.proofs.covering.place_of.Goals as goal

pub halves-init : goal.halves-init
halves-init c = record {
  order = omega arith;
  within = omega arith;
  below = λ i l m. absurd (omega (arith, m));
  above = λ i l m. let n = length-map c.args.parts.now (λ (p : NamedData). p.name) in absurd (omega (arith, l, m, n));
}

pub halves-preserved-then-ends_before : goal.halves-preserved-then-ends_before
halves-preserved-then-ends_before c =
    let t = c.halves-test.true in
    let w = c.halves.invariant.within in
    let middle = c.halves.low + (c.halves.high - c.halves.low) / 2 in
    let l : middle < length c.args.parts.now = omega (arith, t, w) in
    let there = name-at c.args.parts.now middle c.index-parts-middle.result l c.index-parts-middle.is ∙ ap Some (sym c.name.ensures) in
    record {
      order = omega (arith, t);
      within = w;
      below = none-before (names_in c.args.parts.now) middle c.name.result.now c.args.name.now c.requires there c.ends_before.ensures.sized (sym c.ends_before.ensures.value ∙ c.if-ends_before.true);
      above = c.halves.invariant.above;
    }

pub halves-preserved : goal.halves-preserved
halves-preserved c =
    let t = c.halves-test.true in
    let w = c.halves.invariant.within in
    let middle = c.halves.low + (c.halves.high - c.halves.low) / 2 in
    let l : middle < length c.args.parts.now = omega (arith, t, w) in
    let there = name-at c.args.parts.now middle c.index-parts-middle.result l c.index-parts-middle.is ∙ ap Some (sym c.name.ensures) in
    record {
      order = omega (arith, t);
      within = omega (arith, l);
      below = c.halves.invariant.below;
      above = none-after (names_in c.args.parts.now) middle c.name.result.now c.args.name.now c.requires there c.ends_before.ensures.other_sized (sym c.ends_before.ensures.value ∙ c.if-ends_before.false);
    }
