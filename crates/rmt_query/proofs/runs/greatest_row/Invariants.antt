use Rattle.std.proofs.Common.{◌≡◌, ◌<◌, ◌∷◌, drop, get_or, slice_get, []}
use Rattle.std.specs.Option.{option_map}
use Rattle.rmt_values.specs.declared.checked_item.CheckedItem.TheVariants as item
use Rattle.rmt_columns.specs.Columns.{value_of}
use Rattle.rmt_query.specs.OverRows.{over}
use Rattle.rmt_query.proofs.runs.greatest_row.Given as goal

abbrev pub invariant-rows : goal.invariant-rows
invariant-rows g l =
    (l.best < l.i)
    × (over (item.Max l.column) (get_or (g.R.RowValues.rows l.rows) l.best [] ∷ drop l.i (g.R.RowValues.rows l.rows)) ≡ over (item.Max l.column) (g.R.RowValues.rows l.rows))
    × (option_map value_of l.greatest ≡ slice_get (get_or (g.R.RowValues.rows l.rows) l.best []) l.column)
