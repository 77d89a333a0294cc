use Rattle.std.proofs.Common.{rules, ◌≡◌, ◌∙◌, [], length, sym, subst, slice_get, get_or, arith}
use Rattle.std.proofs.Common.{None}
use Rattle.std.specs.Option.{option_map}
use Rattle.rmt_columns.specs.Columns.{value_of}
use Rattle.rmt_columns.specs.RowsByColumn.{RowsView}
use Rattle.rmt_columns.proofs.RowsLemmas.{row-cell, cell-at, cell-missing}
use Rattle.rmt_columns.proofs.rows.Rows.value.Goals as goal

pub returns-then-at-len : goal.returns-then-at-len
returns-then-at-len c =
    let n : c.len.result ≡ length c.self.inside.columns.items = search rules in
    subst (λ (v : RowsView). None ≡ slice_get (get_or v.rows c.args.i []) c.args.column) c.self.view_is
    (sym (row-cell c.self.inside.count c.self.inside.columns.items c.args.i c.args.column c.self.invariant.0 ∙ cell-missing c.self.inside.columns.items c.args.i c.args.column (omega (arith, n, c.if-at-len.true))))

pub returns : goal.returns
returns c =
    let n : c.len.result ≡ length c.self.inside.columns.items = search rules in
    subst (λ (v : RowsView). option_map value_of c.get.result ≡ slice_get (get_or v.rows c.args.i []) c.args.column) c.self.view_is
    (c.get.ensures
    ∙ (cell-at c.self.inside.columns.items c.args.i c.args.column _ c.index.ensures (omega (arith, n, c.if-at-len.false))
    ∙ sym (row-cell c.self.inside.count c.self.inside.columns.items c.args.i c.args.column c.self.invariant.0)))
