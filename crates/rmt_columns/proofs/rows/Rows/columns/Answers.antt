use Rattle.std.proofs.Common.{◌≡◌, ℕ, List, length, sym, ap, ◌∙◌, subst}
use Rattle.rmt_columns.specs.Columns.{ColumnView}
use Rattle.rmt_columns.specs.RowsByColumn.{RowsView, rows_of, AreLong}
use Rattle.rmt_columns.proofs.RowsLemmas.{length-rows_of}
use Rattle.rmt_columns.proofs.rows.Rows.columns.Goals as goal

pub returns-clause-rows : goal.returns-clause-rows
returns-clause-rows c =
    let all = c.self.inside.columns.items in
    let n = c.self.inside.count in
    subst (λ (v : RowsView). rows_of (length v.rows) c.deref.result.now ≡ v.rows) c.self.view_is
    (ap (rows_of (length (rows_of n all))) c.deref.ensures.value ∙ ap (λ (k : ℕ). rows_of k all) (length-rows_of n all c.self.invariant.0))

pub returns-clause-long : goal.returns-clause-long
returns-clause-long c =
    let all = c.self.inside.columns.items in
    let n = c.self.inside.count in
    subst (λ (v : RowsView). AreLong (length v.rows) c.deref.result.now) c.self.view_is
    (subst (λ (l : List ColumnView). AreLong (length (rows_of n all)) l) (sym c.deref.ensures.value)
    (subst (λ (k : ℕ). AreLong k all) (sym (length-rows_of n all c.self.invariant.0)) c.self.invariant.0))
