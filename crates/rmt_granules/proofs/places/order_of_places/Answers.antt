use Rattle.std.proofs.Common.{◌∙◌, sym, map, arith}
use Rattle.std.proofs.lemmas.List.{length-map}
use Rattle.std.specs.Arc.{arc_value}
use Rattle.rmt_granules.proofs.LeadingLemmas.{lead-length, lead-places}
use Rattle.rmt_granules.proofs.places.order_of_places.Goals as goal

pub leading_number-requires : goal.leading_number-requires
leading_number-requires c =
    let l = lead-length c.args.schema.now.key (map arc_value c.args.parts.now) c.args.leading.now c.requires.leading in
    let n = length-map c.args.parts.now arc_value in
    let h = c.requires.first in omega (arith, l, n, h)

pub leading_number-requires-2 : goal.leading_number-requires-2
leading_number-requires-2 c =
    let l = lead-length c.args.schema.now.key (map arc_value c.args.parts.now) c.args.leading.now c.requires.leading in
    let n = length-map c.args.parts.now arc_value in
    let h = c.requires.second in omega (arith, l, n, h)

pub returns-in_default : goal.returns-in_default
returns-in_default c =
    let n = length-map c.args.parts.now arc_value in
    let h = c.requires.first in
    let k = c.requires.second in
    c.cmp.ensures
    ∙ lead-places c.args.schema.now.key (map arc_value c.args.parts.now) c.args.leading.now c.args.a c.args.b c.in-Some-Some.m c.in-Some-Some.n c.requires.leading (omega (arith, n, h)) (omega (arith, n, k)) (sym c.in-Some-Some.ensures) (sym c.in-Some-Some.ensures')
    (λ e. c.in_default.not-Equal (c.cmp.ensures ∙ e))
