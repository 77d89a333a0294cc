-- Lists of columns that order rows alike, and places whose cells order tuples as all cells do. No public clause cites this
-- module.
use Rattle.std.specs.Prelude.{◌≡◌, ℕ, ◌+◌, ◌*◌, List, map, slice_get}
use Rattle.std.specs.declared.cmp.Ordering.{Ordering}
use Rattle.std.specs.Option.{option_cmp}
use Rattle.std.specs.Cmp.Lexicographic.{slice_cmp}
use Rattle.rmt_values.specs.declared.value.Value.{Value}
use Rattle.rmt_values.specs.declared.cell.Cell.{Cell}
use Rattle.rmt_values.specs.declared.checked_item.CheckedItem.{CheckedItem}
use Rattle.rmt_values.specs.declared.checked_item.CheckedItem.TheVariants as item
use Rattle.rmt_values.specs.Rows.{key_cmp}
use Rattle.rmt_query.specs.Cells.{cell_order, tuple_cmp}

-- rows are in one order by both
abbrev pub OrderAlike : List ℕ → List ℕ → Type 0
OrderAlike columns others = (a b : List Value) → key_cmp columns a b ≡ key_cmp others a b

-- the order of tuples by their cells at these places; a missing cell comes first
abbrev pub tuple_cmp_at : List ℕ → List Cell → List Cell → Ordering
tuple_cmp_at places a b = slice_cmp (option_cmp cell_order) (map (λ p. slice_get a p) places) (map (λ p. slice_get b p) places)

-- Tuples of the items are in one order by the cells at these places and by the cells of the others. In a tuple equal items
-- have equal cells.
abbrev pub OrderTuplesAlike : List ℕ → List CheckedItem → List CheckedItem → Type 0
OrderTuplesAlike places items others = (f g : CheckedItem → Cell) → tuple_cmp_at places (map f items) (map g items) ≡ tuple_cmp (map f others) (map g others)

-- the number of an item's flag, for each another one
abbrev pub flag_of : CheckedItem → ℕ
flag_of (item.Column c) = 1 + 4 * c
flag_of item.Count = 0
flag_of (item.Sum c) = 2 + 4 * c
flag_of (item.Min c) = 3 + 4 * c
flag_of (item.Max c) = 4 + 4 * c
