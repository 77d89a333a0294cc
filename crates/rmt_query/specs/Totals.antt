-- What an item is over rows that are read one part after the other. No public clause cites this module.
use Rattle.std.specs.Prelude.{◌≡◌, ◌<◌, List, [], length}
use Rattle.std.specs.declared.option.Option.{Option}
use Rattle.std.specs.declared.option.Option.TheVariants.{Some, None}
use Rattle.rmt_values.specs.declared.value.Value.{Value}
use Rattle.rmt_values.specs.declared.cell.Cell.{Cell}
use Rattle.rmt_values.specs.declared.checked_item.CheckedItem.{CheckedItem}
use Rattle.rmt_query.specs.OverRows.{over}

-- the cell is what the item is over the rows; there is none exactly where there are no rows
abbrev pub IsTotal : CheckedItem → List (List Value) → Option Cell → Type 0
IsTotal i rows None = rows ≡ []
IsTotal i rows (Some cell) = (0 < length rows) × (cell ≡ over i rows)
