-- What a query answers over rows.
-- ClickHouse documentation: SELECT, WHERE, GROUP BY, aggregate functions. That an answer is in ascending order is this
-- program's own.
use Rattle.std.specs.Prelude.{ℕ, cond, Bool, true, List, [], ◌∷◌, map}
use Rattle.std.specs.List.{filter}
use Rattle.std.specs.Cmp.Lexicographic.{slice_cmp}
use Rattle.std.specs.declared.option.Option.{Option}
use Rattle.std.specs.declared.option.Option.TheVariants.{Some, None}
use Rattle.rmt_values.specs.declared.value.Value.{Value}
use Rattle.rmt_values.specs.declared.cell.Cell.{Cell}
use Rattle.rmt_values.specs.declared.checked.Checked.{Checked}
use Rattle.rmt_values.specs.declared.checked_item.CheckedItem.{CheckedItem}
use Rattle.rmt_values.specs.declared.checked_query.CheckedQuery.{CheckedQuery}
use Rattle.rmt_values.specs.Rows.{Shape, cell_cmp, key_of}
use Rattle.rmt_values.specs.Order.{in_order, folded}
use Rattle.rmt_values.specs.Filters.{holds}
use Rattle.rmt_values.specs.Aggregates.{is_checked_aggregate, is_grouping}
use Rattle.rmt_query.specs.Cells.{one, joined, zero_of, tuple_cmp}
use Rattle.rmt_query.specs.Groups.{enter}

-- whether a row matches; without a filter, all do
abbrev pub matches : Option Checked → List Value → Bool
matches None row = true
matches (Some f) row = holds f row

-- the matching rows
abbrev pub matching : Option Checked → List (List Value) → List (List Value)
matching condition rows = filter (matches condition) rows

-- the tuple of one row
abbrev pub tuple_of : List CheckedItem → List Value → List Cell
tuple_of items row = map (λ i. one i row) items

-- the tuple of a group with one more row; that of no rows yet is empty
abbrev pub add_row : List CheckedItem → List Value → List Cell → List Cell
add_row [] row cells = []
add_row (i ∷ is) row [] = one i row ∷ add_row is row []
add_row (i ∷ is) row (c ∷ cs) = joined i (one i row) c ∷ add_row is row cs

-- the groups of rows by the values in these columns, each with its tuple
abbrev pub groups_of : List CheckedItem → List ℕ → List (List Value) → List (List (Option Value) × List Cell)
groups_of items group rows = folded (enter (slice_cmp cell_cmp) (key_of group) [] (add_row items)) [] rows

-- without GROUP BY there is one tuple, over no rows too
abbrev pub or_zeros : List ℕ → List Cell → List (List Cell) → List (List Cell)
or_zeros [] zeros [] = zeros ∷ []
or_zeros [] zeros (t ∷ ts) = t ∷ ts
or_zeros (c ∷ cs) zeros tuples = tuples

-- the tuples of groups
abbrev pub group_tuples : Shape → List CheckedItem → List ℕ → List (List Value) → List (List Cell)
group_tuples shape items group rows =
    or_zeros group (map (λ i. zero_of shape i) items) (map (λ g. g.1) (groups_of items group rows))

-- the tuples of a query over the matching rows
abbrev pub tuples_of : Shape → CheckedQuery → List (List Value) → List (List Cell)
tuples_of shape query rows =
    cond (is_grouping is_checked_aggregate query.items query.group) (group_tuples shape query.items query.group rows) (map (tuple_of query.items) rows)

-- the answer: the tuples in ascending order
unfoldable pub answer_of : Shape → CheckedQuery → List (List Value) → List (List Cell)
answer_of shape query rows = in_order tuple_cmp (tuples_of shape query (matching query.filter rows))
