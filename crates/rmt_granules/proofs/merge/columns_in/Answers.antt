use Rattle.std.proofs.Common.{◌≡◌, ◌∙◌, ◌++◌, ◌∷◌, [], ◌<◌, List, ap, map, arith, length}
use Rattle.std.specs.Arc.{arc_value}
use Rattle.rmt_columns.specs.Columns.{ColumnView}
use Rattle.rmt_granules.specs.Places.{row_in}
use Rattle.rmt_granules.proofs.ColumnLemmas.{column-next}
use Rattle.rmt_granules.proofs.merge.columns_in.Goals as goal

pub columns-preserved : goal.columns-preserved
columns-preserved c =
    let all : c.columns-count.result.now ≡ c.args.schema.now.columns = c.columns-count.ensures.value in
    let h : c.columns.at < length c.args.schema.now.columns = let n = ap length all in omega (arith, n, c.columns-test.true) in
    c.in_ok-push.ensures.items
    ∙ (ap (λ (l : List ColumnView). l ++ c.in_ok-column_in.field-0 ∷ []) c.columns.invariant
    ∙ column-next c.args.schema.now.columns c.columns.at c.in_ok-column_in.field-0 (map (row_in (map arc_value c.args.parts.now)) c.args.places.now) h c.in_ok-column_in.ensures.kind c.in_ok-column_in.ensures.values)
