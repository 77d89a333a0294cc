use Rattle.std.proofs.Common.{◌≡◌, ◌∙◌, ap, sym, subst, true, List, ℕ}
use Rattle.std.specs.List.{All}
use Rattle.std.specs.List.Sorted.{IsSorted}
use Rattle.rmt_values.specs.declared.value.Value.{Value}
use Rattle.rmt_values.specs.Rows.{fits, key_cmp}
use Rattle.rmt_values.specs.Order.{in_order}
use Rattle.rmt_values.proofs.Totals.{key_cmp_total}
use Rattle.rmt_columns.specs.Places.{at_places}
use Rattle.rmt_columns.specs.RowsByColumn.{RowsView}
use Rattle.rmt_granules.proofs.StableOrder.{All-ordered, ordered-sorted}
use Rattle.rmt_granules.proofs.order.from_unsorted_rows.Goals as goal

-- the rows that were gathered are those in the order of the key
sorted : (c : goal.In_ok-sorted) → c.in_ok-sorted.sorted.rows ≡ in_order (key_cmp c.args.schema.now.key) c.args.rows.now.rows
sorted c =
    ap (λ (v : RowsView). v.rows) c.in_ok-sorted.ensures
    ∙ (ap (at_places c.args.rows.now.rows) c.deref.ensures.value
    ∙ (c.in_ok-places.ensures.order ∙ ap (λ (k : List ℕ). in_order (key_cmp k) c.args.rows.now.rows) c.key.ensures.value))

pub from_rows-requires-clause-fit : goal.from_rows-requires-clause-fit
from_rows-requires-clause-fit c =
    subst (All (λ row. fits c.args.schema.now.columns row ≡ true)) (sym (sorted c))
    (All-ordered (key_cmp c.args.schema.now.key) (λ (row : List Value). fits c.args.schema.now.columns row ≡ true) c.args.rows.now.rows c.requires.fit)

pub from_rows-requires-clause-sorted : goal.from_rows-requires-clause-sorted
from_rows-requires-clause-sorted c =
    subst (IsSorted (key_cmp c.args.schema.now.key)) (sym (sorted c)) (ordered-sorted (key_cmp c.args.schema.now.key) (key_cmp_total c.args.schema.now.key) c.args.rows.now.rows)
