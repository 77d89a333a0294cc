-- The cells of an answer: what an item is over rows.
-- ClickHouse documentation: SELECT, GROUP BY; aggregate functions count, sum, min, max. That a sum is exact in 128 bits
-- is this program's own.
use Rattle.std.specs.Prelude.{◌+◌, ◌⊎◌, ℤ, pos, ◌+ℤ◌, cond, List, [], slice_get}
use mathlib.Core.Logic.{inl, inr}
use Rattle.std.specs.Ordering.{int_cmp, is_gt}
use Rattle.std.specs.Cmp.Lexicographic.{slice_cmp}
use Rattle.std.specs.declared.option.Option.{Option}
use Rattle.std.specs.declared.option.Option.TheVariants.{Some, None}
use Rattle.std.specs.declared.cmp.Ordering.{Ordering}
use Rattle.std.specs.declared.cmp.Ordering.TheVariants.{Less, Greater}
use Rattle.rmt_values.specs.declared.value.Value.{Value}
use Rattle.rmt_values.specs.declared.value.Value.TheVariants.{UInt, Int, Text}
use Rattle.rmt_values.specs.declared.cell.Cell.{Cell}
use Rattle.rmt_values.specs.declared.cell.Cell.TheVariants as cells
use Rattle.rmt_values.specs.declared.kind.Kind.{Kind}
use Rattle.rmt_values.specs.declared.kind.Kind.TheVariants as kinds
use Rattle.rmt_values.specs.declared.checked_item.CheckedItem.{CheckedItem}
use Rattle.rmt_values.specs.declared.checked_item.CheckedItem.TheVariants as item
use Rattle.rmt_values.specs.Rows.{Shape, kind_at, value_cmp}

-- a cell as a value, or as a sum
abbrev pub value_or_sum : Cell → Value ⊎ ℤ
value_or_sum (cells.UInt a) = inl (UInt a)
value_or_sum (cells.Int a) = inl (Int a)
value_or_sum (cells.Text a) = inl (Text a)
value_or_sum (cells.Sum a) = inr a

-- values in their order, then sums in theirs
abbrev pub value_or_sum_cmp : Value ⊎ ℤ → Value ⊎ ℤ → Ordering
value_or_sum_cmp (inl a) (inl b) = value_cmp a b
value_or_sum_cmp (inl a) (inr b) = Less
value_or_sum_cmp (inr a) (inl b) = Greater
value_or_sum_cmp (inr a) (inr b) = int_cmp a b

-- the order of cells: that of values, and sums after them
abbrev pub cell_order : Cell → Cell → Ordering
cell_order a b = value_or_sum_cmp (value_or_sum a) (value_or_sum b)

-- tuples from left to right
abbrev pub tuple_cmp : List Cell → List Cell → Ordering
tuple_cmp a b = slice_cmp cell_order a b

-- what is shown of a value; a row that fits has one in each column
abbrev pub cell_of : Option Value → Cell
cell_of None = cells.Sum (pos 0)
cell_of (Some (UInt a)) = cells.UInt a
cell_of (Some (Int a)) = cells.Int a
cell_of (Some (Text a)) = cells.Text a

-- the number that a value is, and 0 for what is none
abbrev pub number_of : Option Value → ℤ
number_of None = pos 0
number_of (Some (UInt a)) = pos a
number_of (Some (Int a)) = a
number_of (Some (Text a)) = pos 0

-- what an item is over one row
abbrev pub one : CheckedItem → List Value → Cell
one (item.Column c) row = cell_of (slice_get row c)
one item.Count row = cells.UInt 1
one (item.Sum c) row = cells.Sum (number_of (slice_get row c))
one (item.Min c) row = cell_of (slice_get row c)
one (item.Max c) row = cell_of (slice_get row c)

-- the counts or the sums of both, added
abbrev pub added : Cell → Cell → Cell
added (cells.UInt a) (cells.UInt b) = cells.UInt (a + b)
added (cells.Sum a) (cells.Sum b) = cells.Sum (a +ℤ b)
added a b = b

-- the lesser of two cells, the first where they are equal
abbrev pub lesser : Cell → Cell → Cell
lesser a b = cond (is_gt (cell_order a b)) b a

-- the greater of two cells, the first where they are equal
abbrev pub greater : Cell → Cell → Cell
greater a b = cond (is_gt (cell_order b a)) b a

-- what an item is over the rows of both; the rows of a group show one cell in each of its columns
abbrev pub joined : CheckedItem → Cell → Cell → Cell
joined (item.Column c) a b = lesser a b
joined item.Count a b = added a b
joined (item.Sum c) a b = added a b
joined (item.Min c) a b = lesser a b
joined (item.Max c) a b = greater a b

-- the zero of a type, and the empty String
abbrev pub zero_in : Option Kind → Cell
zero_in None = cells.Sum (pos 0)
zero_in (Some kinds.UInt64) = cells.UInt 0
zero_in (Some kinds.Int64) = cells.Int (pos 0)
zero_in (Some kinds.Text) = cells.Text []

-- what an item is over no rows
abbrev pub zero_of : Shape → CheckedItem → Cell
zero_of shape (item.Column c) = zero_in (kind_at shape.columns c)
zero_of shape item.Count = cells.UInt 0
zero_of shape (item.Sum c) = cells.Sum (pos 0)
zero_of shape (item.Min c) = zero_in (kind_at shape.columns c)
zero_of shape (item.Max c) = zero_in (kind_at shape.columns c)
