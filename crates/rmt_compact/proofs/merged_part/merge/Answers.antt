use Rattle.std.proofs.Common.{◌≡◌, ◌∙◌, ap, sym, subst, map, List, arith}
use Rattle.std.specs.Arc.{arc_value}
use Rattle.std.proofs.lemmas.List.{length-map}
use Rattle.rmt_values.specs.Rows.{Shape, in_key_order}
use Rattle.rmt_entries.specs.Entries.{result_name}
use Rattle.rmt_granules.specs.Granules.{PartView as Data}
use Rattle.rmt_granules.specs.MadePart.{data_of}
use Rattle.rmt_granules.specs.MergedData.{AreDataOf, rows_joined}
use Rattle.rmt_granules.proofs.MergeLemmas.{mapped-at}
use Rattle.rmt_part.specs.Lineages.{PartValue}
use Rattle.rmt_compact.specs.NewParts.{bodies_of}
use Rattle.rmt_compact.proofs.NewPartLemmas.{some-parts, merged-part, is-merged, all-data, each-slice}
use Rattle.rmt_compact.proofs.merged_part.merge.Goals as goal

-- data that is told in two ways
told-data : (a b : Shape) (xs ys zs : List Data) → a ≡ b → xs ≡ ys → ys ≡ zs → AreDataOf a zs → AreDataOf b xs
told-data a b xs ys zs e f g h = subst (AreDataOf b) (sym (f ∙ g)) (subst (λ (x : Shape). AreDataOf x zs) e h)

made-data : (a b c : Shape) (xs ys zs : List Data) (d e f : Data) → a ≡ b → xs ≡ ys → ys ≡ zs → e ≡ data_of a (in_key_order a (rows_joined xs)) → d ≡ e → d ≡ data_of b (in_key_order b (rows_joined zs))
made-data a b c xs ys zs d e f p q r g h = h ∙ (g ∙ (ap (λ (x : Shape). data_of x (in_key_order x (rows_joined xs))) p ∙ ap (λ (l : List Data). data_of b (in_key_order b (rows_joined l))) (q ∙ r)))

pub merged-requires : goal.merged-requires
merged-requires c =
    let parts = map arc_value c.args.sources.now in
    let n = length-map c.args.sources.now arc_value in
    let some = some-parts c.args.made parts c.requires in
    let at = mapped-at arc_value c.args.sources.now 0 _ c.index-sources-0.is (omega (arith, n, some)) in
    let first = c.in_ok-schema.ensures ∙ (c.schema.ensures ∙ (ap (λ (p : PartValue). p.schema) c.deref.ensures ∙ each-slice (λ (p : PartValue). p.schema ≡ c.requires.schema) parts 0 _ c.requires.schemas at)) in
    told-data c.requires.schema c.deref-3.result.now _ _ (bodies_of parts) (sym (c.deref-3.ensures ∙ first)) (ap (map arc_value) c.deref-2.ensures.value) c.in_ok-bodies.ensures.bodies (all-data c.requires.schema parts c.in_ok-bodies.ensures.parts c.requires.schemas)

pub of-requires : goal.of-requires
of-requires c =
    let parts = map arc_value c.args.sources.now in
    let n = length-map c.args.sources.now arc_value in
    let some = some-parts c.args.made parts c.requires in
    let at = mapped-at arc_value c.args.sources.now 0 _ c.index-sources-0.is (omega (arith, n, some)) in
    let first = c.in_ok-schema.ensures ∙ (c.schema.ensures ∙ (ap (λ (p : PartValue). p.schema) c.deref.ensures ∙ each-slice (λ (p : PartValue). p.schema ≡ c.requires.schema) parts 0 _ c.requires.schemas at)) in
    merged-part c.args.made parts (arc_value c.in_ok-schema.schema) c.made_name-name.result (arc_value c.in_ok-body.body) c.in_ok-blocks.blocks.items (arc_value c.in_ok-mutations.mutations) c.requires c.in_ok-bodies.ensures.parts first
    (sym (ap result_name c.value.ensures) ∙ c.made_name-name.ensures)
    (made-data c.deref-3.result.now (arc_value c.in_ok-schema.schema) (arc_value c.in_ok-schema.schema) _ _ (bodies_of parts) _ _ (arc_value c.in_ok-body.body) c.deref-3.ensures (ap (map arc_value) c.deref-2.ensures.value) c.in_ok-bodies.ensures.bodies c.in_ok-data.ensures c.in_ok-body.ensures.ok)
    c.in_ok-blocks.ensures c.in_ok-mutations.ensures

pub returns : goal.returns
returns c =
    let parts = map arc_value c.args.sources.now in
    let n = length-map c.args.sources.now arc_value in
    let some = some-parts c.args.made parts c.requires in
    let at = mapped-at arc_value c.args.sources.now 0 _ c.index-sources-0.is (omega (arith, n, some)) in
    let first = c.in_ok-schema.ensures ∙ (c.schema.ensures ∙ (ap (λ (p : PartValue). p.schema) c.deref.ensures ∙ each-slice (λ (p : PartValue). p.schema ≡ c.requires.schema) parts 0 _ c.requires.schemas at)) in
    is-merged c.args.made parts c.of.result (arc_value c.in_ok-schema.schema) c.made_name-name.result (arc_value c.in_ok-body.body) c.in_ok-blocks.blocks.items (arc_value c.in_ok-mutations.mutations) c.requires c.of.ensures first
    (sym (ap result_name c.value.ensures) ∙ c.made_name-name.ensures) c.in_ok-blocks.ensures c.in_ok-mutations.ensures
