use Rattle.std.proofs.Common.{◌∙◌, length, sym, ap, []}
use Rattle.rmt_values.specs.Rows.{key_cmp}
use Rattle.rmt_columns.specs.RowsByColumn.{RowsView}
use Rattle.rmt_columns.proofs.OrderLemmas.{InOrder, places-ordered}
use Rattle.rmt_columns.proofs.RowsLemmas.{length-rows_of}
use Rattle.rmt_columns.proofs.rows.Rows.places_in_order.Goals as goal

ordered : (c : goal.In_ok-sorted) → InOrder (key_cmp c.args.key.now) c.args.self.now.rows c.in_ok-sorted.sorted.items
ordered c =
    let count = sym (length-rows_of c.self.inside.count c.self.inside.columns.items c.self.invariant.0) ∙ ap (λ (v : RowsView). length v.rows) c.self.view_is in
    places-ordered (key_cmp c.args.key.now) c.args.self.now.rows [] c.self.inside.count _ _ count c.in_ok-places.ensures c.in_ok-sorted.ensures

pub returns-clause-order : goal.returns-clause-order
returns-clause-order c = InOrder.order (ordered c)

pub returns-clause-there : goal.returns-clause-there
returns-clause-there c = InOrder.there (ordered c)
