use Rattle.std.proofs.Common.{◌≡◌, ◌∙◌, ap, sym, subst, map, All, true}
use Rattle.std.specs.Arc.{arc_value}
use Rattle.std.specs.List.Sorted.{IsSorted}
use Rattle.std.proofs.lemmas.List.{length-map}
use Rattle.rmt_values.specs.Rows.{fits, key_cmp}
use Rattle.rmt_granules.specs.MadePart.{data_of}
use Rattle.rmt_granules.specs.MergedData.{rows_joined}
use Rattle.rmt_granules.proofs.MergeLemmas.{merged-rows, merged-fit, merged-sorted}
use Rattle.rmt_granules.proofs.merge.merged.Goals as goal

pub rows_in-requires-clause-fit : goal.rows_in-requires-clause-fit
rows_in-requires-clause-fit c =
    let parts = map arc_value c.args.parts.now in
    let e = merged-rows c.args.schema.now parts _ _ _ (sym (length-map c.args.parts.now arc_value)) c.in_ok-places.ensures.order c.deref-2.ensures.value in
    subst (All (λ row. fits c.args.schema.now.columns row ≡ true)) (sym e) (merged-fit c.args.schema.now parts c.requires)

pub from_rows-requires-clause-fit : goal.from_rows-requires-clause-fit
from_rows-requires-clause-fit c =
    let parts = map arc_value c.args.parts.now in
    let e = merged-rows c.args.schema.now parts _ _ _ (sym (length-map c.args.parts.now arc_value)) c.in_ok-places.ensures.order c.deref-2.ensures.value in
    subst (All (λ row. fits c.args.schema.now.columns row ≡ true)) (sym (c.in_ok-rows.ensures.rows ∙ e)) (merged-fit c.args.schema.now parts c.requires)

pub from_rows-requires-clause-sorted : goal.from_rows-requires-clause-sorted
from_rows-requires-clause-sorted c =
    let parts = map arc_value c.args.parts.now in
    let e = merged-rows c.args.schema.now parts _ _ _ (sym (length-map c.args.parts.now arc_value)) c.in_ok-places.ensures.order c.deref-2.ensures.value in
    subst (IsSorted (key_cmp c.args.schema.now.key)) (sym (c.in_ok-rows.ensures.rows ∙ e)) (merged-sorted c.args.schema.now (rows_joined parts))

pub returns : goal.returns
returns c =
    let parts = map arc_value c.args.parts.now in
    let e = merged-rows c.args.schema.now parts _ _ _ (sym (length-map c.args.parts.now arc_value)) c.in_ok-places.ensures.order c.deref-2.ensures.value in
    c.in_ok-part.ensures ∙ ap (data_of c.args.schema.now) (c.in_ok-rows.ensures.rows ∙ e)
