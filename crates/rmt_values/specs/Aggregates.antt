-- Which items of a query are aggregates, and which queries put rows together.
-- ClickHouse documentation: SELECT, GROUP BY, aggregate functions.
use Rattle.std.specs.Prelude.{◌||◌, not, Bool, true, false, List, [], ◌∷◌}
use Rattle.rmt_values.specs.Rows.{is_empty}
use Rattle.rmt_values.specs.declared.item.Item.{Item}
use Rattle.rmt_values.specs.declared.item.Item.TheVariants as item
use Rattle.rmt_values.specs.declared.checked_item.CheckedItem.{CheckedItem}
use Rattle.rmt_values.specs.declared.checked_item.CheckedItem.TheVariants as placed

-- the item is a count, a sum, a least or a greatest value
abbrev pub is_aggregate : Item → Bool
is_aggregate (item.Column n) = false
is_aggregate i = true

-- a checked item is one of these
abbrev pub is_checked_aggregate : CheckedItem → Bool
is_checked_aggregate (placed.Column c) = false
is_checked_aggregate i = true

-- one of the items is an aggregate
abbrev pub has_aggregate : {I : Type 0} → (I → Bool) → List I → Bool
has_aggregate aggregate [] = false
has_aggregate aggregate (i ∷ is) = aggregate i || has_aggregate aggregate is

-- rows are put together: there is an aggregate or GROUP BY
abbrev pub is_grouping : {I N : Type 0} → (I → Bool) → List I → List N → Bool
is_grouping aggregate items group = has_aggregate aggregate items || not (is_empty group)
