use Rattle.std.proofs.Common.{◌≡◌, ℕ, ◌+◌, ◌<◌, [], ◌∷◌, length, drop, get_or, sym, ap, ◌∙◌, subst, arith}
use Rattle.std.proofs.Common.{slice_get}
use Rattle.std.specs.Option.{option_map}
use Rattle.std.specs.declared.option.Option.{Option}
use Rattle.rmt_values.specs.declared.value.Value.{Value}
use Rattle.rmt_values.specs.declared.checked_item.CheckedItem.TheVariants as item
use Rattle.rmt_columns.specs.Columns.{value_of}
use Rattle.rmt_columns.specs.declared.value_ref.ValueRef.{ValueRef}
use Rattle.rmt_query.specs.Cells.{cell_order, cell_of}
use Rattle.rmt_query.specs.OverRows.{over}
use Rattle.rmt_query.proofs.Over.{least-turns, least-stays}
use Rattle.rmt_query.proofs.runs.least_row.Goals.{in-Greater, in_default}
use Rattle.rmt_query.proofs.runs.least_row.Goals as goal

pub rows-preserved : goal.rows-preserved
rows-preserved g c =
    let k = c.args.column in
    let rows = g.R.RowValues.rows c.args.rows.now in
    let (before, best, known) = c.rows.invariant in
    let long = c.len-i-end.ensures.len in
    let here : c.rows.i < length (g.R.RowValues.rows c.args.rows.now) = omega (arith, long, c.rows-test.true) in
    let value = c.value-value.ensures.value in
    let order =
    ap (λ (v : Option Value). cell_order (cell_of v) (cell_of (slice_get (get_or (g.R.RowValues.rows c.args.rows.now) c.rows.i []) k))) (sym known)
    ∙ (ap (λ (v : Option Value). cell_order (cell_of (option_map value_of c.rows.least)) (cell_of v)) (sym value)
    ∙ sym c.compare_values.ensures) in
    elim c.match-compare_values.branch [
      | in-Greater w ↦ (
        omega arith,
        subst (λ (j : ℕ). over (item.Min k) (get_or rows j [] ∷ drop (c.rows.i + 1) rows) ≡ over (item.Min k) rows) (sym w.best-is)
            (least-turns k rows c.rows.best c.rows.i _ here (order ∙ w.in-Greater.is) best),
        ap (λ (v : Option ValueRef). option_map value_of v) w.least-is ∙ (value ∙ ap (λ (j : ℕ). slice_get (get_or rows j []) k) (sym w.best-is)),
      )
      | in_default w ↦ (
        omega (arith, before),
        subst (λ (j : ℕ). over (item.Min k) (get_or rows j [] ∷ drop (c.rows.i + 1) rows) ≡ over (item.Min k) rows) (sym w.best-is)
            (least-stays k rows c.rows.best c.rows.i _ here (λ e. w.in_default.not-Greater (sym order ∙ e)) best),
        ap (λ (v : Option ValueRef). option_map value_of v) w.least-is ∙ (known ∙ ap (λ (j : ℕ). slice_get (get_or rows j []) k) (sym w.best-is)),
      )
    ]
