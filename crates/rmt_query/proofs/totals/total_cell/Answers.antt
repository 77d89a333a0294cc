use Rattle.std.proofs.Common.{◌≡◌, ◌∙◌, ◌++◌, List, take, sym, ap, subst}
use Rattle.rmt_values.specs.declared.value.Value.{Value}
use Rattle.rmt_granules.specs.Granules.{PartView}
use Rattle.rmt_partset.specs.Snapshots.{all_rows, data_in}
use Rattle.rmt_query.specs.Totals.{IsTotal}
use Rattle.rmt_query.proofs.TotalLemmas.{rows-next}
use Rattle.rmt_query.proofs.totals.total_cell.Goals as goal

pub parts-preserved : goal.parts-preserved
parts-preserved c =
    let before = all_rows (data_in (take c.parts.part-index c.args.parts.now)) in
    let same : c.data-in-parts.result.now.rows ≡ c.part-item.result.rows.rows = c.data-in-parts.ensures.rows ∙ ap (λ (p : PartView). p.rows) (c.deref.ensures ∙ c.data.ensures) in
    subst (λ (l : List (List Value)). IsTotal c.args.item l c.in_ok-total.total)
    (ap (λ (l : List (List Value)). before ++ l) same ∙ sym (rows-next c.args.parts.now c.parts.part-index c.part-item.result c.part-item.is c.parts-test.true))
    (c.in_ok-total.ensures before c.parts.invariant)
