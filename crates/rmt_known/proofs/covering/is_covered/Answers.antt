use Rattle.std.proofs.Common.{◌<◌, length, sym, ap, arith, ◌∙◌}
use Rattle.std.proofs.lemmas.List.{length-map}
use Rattle.std.specs.declared.option.Option.TheVariants.{Some}
use Rattle.rmt_partset.specs.Snapshots.{NamedData, names_in}
use Rattle.rmt_known.proofs.CoveringLemmas.{name-at, covered-so, none-covered}
use Rattle.rmt_known.proofs.covering.is_covered.Goals as goal

pub returns-then-place-parts : goal.returns-then-place-parts
returns-then-place-parts c =
    let t = c.if-place-parts.true in
    let n = length-map c.args.parts.now (λ (p : NamedData). p.name) in
    none-covered (names_in c.args.parts.now) c.args.name.now (λ i l m x e. c.place_of-place.ensures.below i l (omega (arith, t, m, n)) x e)

pub returns : goal.returns
returns c =
    let f = c.if-place-parts.false in
    let l : c.place_of-place.result < length c.args.parts.now = omega (arith, f) in
    let there = name-at c.args.parts.now c.place_of-place.result c.index-parts-place.result l c.index-parts-place.is ∙ ap Some (sym c.name.ensures) in
    c.covers.ensures.test ∙ covered-so (names_in c.args.parts.now) c.place_of-place.result c.name.result.now c.args.name.now there c.place_of-place.ensures.below c.place_of-place.ensures.above
