use Rattle.std.proofs.Common.{◌≡◌, ◌∙◌, subst, get_or, [], List, ℕ}
use Rattle.rmt_values.specs.Rows.{key_cmp}
use Rattle.rmt_columns.specs.Columns.{ColumnView}
use Rattle.rmt_columns.specs.RowsByColumn.{RowsView, cells_cmp, rows_of}
use Rattle.rmt_columns.proofs.RowsLemmas.{cells-keys}
use Rattle.rmt_columns.proofs.rows.Rows.order_by_all.Goals as goal

same : (k : List ℕ) (a a' b b' : List ColumnView) (i j : ℕ) → a ≡ a' → b ≡ b' → cells_cmp k a i b j ≡ cells_cmp k a' i b' j
same k a a' b b' i j f g = cc

pub returns : goal.returns
returns c =
    subst (λ (v : RowsView). c.order_of_rows.result ≡ key_cmp c.args.key.now (get_or v.rows c.args.i []) (get_or c.args.other.now.rows c.args.j [])) c.self.view_is
    (subst (λ (w : RowsView). c.order_of_rows.result ≡ key_cmp c.args.key.now (get_or (rows_of c.self.inside.count c.self.inside.columns.items) c.args.i []) (get_or w.rows c.args.j [])) c.other.view_is
    (c.order_of_rows.ensures
    ∙ (same c.args.key.now _ _ _ _ c.args.i c.args.j c.deref.ensures.value c.deref-2.ensures.value
    ∙ cells-keys c.args.key.now c.self.inside.count c.other.inside.count c.self.inside.columns.items c.other.inside.columns.items c.args.i c.args.j c.self.invariant.0 c.other.invariant.0)))
