use Rattle.std.proofs.Common.{◌≡◌, List, sym, ap, ◌∙◌, subst, arith}
use Rattle.std.proofs.Common.{slice_get, Some, None}
use Rattle.std.proofs.lemmas.Option.{slice_get_past}
use Rattle.rmt_values.specs.declared.value.Value.{Value}
use Rattle.rmt_columns.specs.RowsByColumn.{RowsView, rows_of, row_at}
use Rattle.rmt_columns.proofs.RowsLemmas.{length-rows_of, slice_get-rows_of}
use Rattle.rmt_columns.proofs.rows.Rows.row.Goals as goal

pub returns-then-i-self : goal.returns-then-i-self
returns-then-i-self c =
    let l = length-rows_of c.self.inside.count c.self.inside.columns.items c.self.invariant.0 in
    subst (λ (v : RowsView). None ≡ slice_get v.rows c.args.i) c.self.view_is
    (sym (slice_get_past (rows_of c.self.inside.count c.self.inside.columns.items) c.args.i (omega (arith, l, c.if-i-self.true))))

pub returns : goal.returns
returns c =
    subst (λ (v : RowsView). Some c.in_ok-row.row ≡ slice_get v.rows c.args.i) c.self.view_is
    (ap (λ (r : List Value). Some r) (c.in_ok-row.ensures ∙ ap (row_at c.args.i) c.deref.ensures.value)
    ∙ sym (slice_get-rows_of c.self.inside.count c.self.inside.columns.items c.args.i c.self.invariant.0 c.if-i-self.false))
