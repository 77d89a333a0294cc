-- What an item is over several rows. No public clause cites this module.
use Rattle.std.specs.Prelude.{ℕ, ℤ, pos, ◌+ℤ◌, List, [], ◌∷◌, slice_get}
use Rattle.rmt_values.specs.declared.value.Value.{Value}
use Rattle.rmt_values.specs.declared.cell.Cell.{Cell}
use Rattle.rmt_values.specs.declared.cell.Cell.TheVariants as cells
use Rattle.rmt_values.specs.declared.checked_item.CheckedItem.{CheckedItem}
use Rattle.rmt_query.specs.Cells.{one, joined, number_of}

-- what an item is over rows, of which there is one at least
abbrev pub over : CheckedItem → List (List Value) → Cell
over i [] = cells.Sum (pos 0)
over i (x ∷ []) = one i x
over i (x ∷ y ∷ ys) = joined i (one i x) (over i (y ∷ ys))

-- the numbers of a column, added up
abbrev pub total : ℕ → List (List Value) → ℤ
total c [] = pos 0
total c (x ∷ xs) = number_of (slice_get x c) +ℤ total c xs
