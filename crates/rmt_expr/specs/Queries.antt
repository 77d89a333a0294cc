-- What a query is over the columns of a schema, and why it is refused.
-- ClickHouse documentation: SELECT, GROUP BY, aggregate functions. The order of the checks is this program's own.
use Rattle.std.specs.Prelude.{◌≡◌, IsSome, ℕ, ◌+◌, cond, ◌&&◌, not, Bool, false, List, [], ◌∷◌}
use Rattle.std.specs.Option.{option_or, option_map}
use Rattle.std.specs.declared.option.Option.{Option}
use Rattle.std.specs.declared.option.Option.TheVariants.{Some, None}
use Rattle.rmt_values.specs.declared.kind.Kind.{Kind}
use Rattle.rmt_values.specs.declared.column.Column.{Column}
use Rattle.rmt_values.specs.declared.item.Item.{Item}
use Rattle.rmt_values.specs.declared.item.Item.TheVariants as item
use Rattle.rmt_values.specs.declared.checked_item.CheckedItem.{CheckedItem}
use Rattle.rmt_values.specs.declared.checked_item.CheckedItem.TheVariants as placed
use Rattle.rmt_values.specs.declared.filter.Filter.{Filter}
use Rattle.rmt_values.specs.declared.checked.Checked.{Checked}
use Rattle.rmt_values.specs.declared.query.Query.{Query}
use Rattle.rmt_values.specs.declared.checked_query.CheckedQuery.{CheckedQuery}
use Rattle.rmt_values.specs.Rows.{Shape, place_from, kind_named, is_empty}
use Rattle.rmt_values.specs.Schemas.{names_of, has_name}
use Rattle.rmt_values.specs.Commands.{is_number}
use Rattle.rmt_values.specs.Aggregates.{is_aggregate, is_grouping}
use Rattle.rmt_expr.specs.Checks.{checked_of, unknown_name, unknown_in, type_error_in}
use Rattle.rmt_expr.specs.declared.check_error.CheckError.{CheckError}
use Rattle.rmt_expr.specs.declared.check_error.CheckError.TheVariants as refusal

-- the column of this name is at this place
abbrev pub IsAt : Shape → List ℕ → ℕ → Type 0
IsAt shape name place = place_from 0 shape.columns name ≡ Some place

-- the checked form of one item
abbrev pub IsItem : Shape → Item → CheckedItem → Type 0
IsItem shape (item.Column n) (placed.Column p) = IsAt shape n p
IsItem shape item.Count placed.Count = Unit {0}
IsItem shape (item.Sum n) (placed.Sum p) = IsAt shape n p
IsItem shape (item.Min n) (placed.Min p) = IsAt shape n p
IsItem shape (item.Max n) (placed.Max p) = IsAt shape n p
IsItem shape i c = ⊥

-- the checked forms of items, one by one
abbrev pub AreItems : Shape → List Item → List CheckedItem → Type 0
AreItems shape [] [] = Unit {0}
AreItems shape [] (c ∷ cs) = ⊥
AreItems shape (i ∷ is) [] = ⊥
AreItems shape (i ∷ is) (c ∷ cs) = IsItem shape i c × AreItems shape is cs

-- all columns in their order, counted from the place i
abbrev pub all_from : ℕ → List Column → List CheckedItem
all_from i [] = []
all_from i (c ∷ cs) = placed.Column i ∷ all_from (i + 1) cs

-- the select list: no items mean all columns
abbrev pub IsSelectList : Shape → List Item → List CheckedItem → Type 0
IsSelectList shape [] cs = cs ≡ all_from 0 shape.columns
IsSelectList shape (i ∷ is) cs = AreItems shape (i ∷ is) cs

-- the places of the columns of these names, one by one
abbrev pub ArePlaces : Shape → List (List ℕ) → List ℕ → Type 0
ArePlaces shape [] [] = Unit {0}
ArePlaces shape [] (p ∷ ps) = ⊥
ArePlaces shape (n ∷ ns) [] = ⊥
ArePlaces shape (n ∷ ns) (p ∷ ps) = IsAt shape n p × ArePlaces shape ns ps

-- the checked form of a filter, where there is one
abbrev pub IsFiltered : Shape → Option Filter → Option Checked → Type 0
IsFiltered shape None checked = checked ≡ None
IsFiltered shape (Some f) checked = IsSome checked × (checked_of shape f ≡ checked)

-- the checked form of a query
pub record IsCheckedQuery (shape : Shape) (query : Query) (checked : CheckedQuery) : Type 0 where
  pub selected : IsSelectList shape query.items checked.items
  pub filtered : IsFiltered shape query.filter checked.filter
  pub grouped : ArePlaces shape query.group checked.group

-- ---- refusals

-- the item's name, where no column has it
abbrev pub unknown_item : Shape → Item → Option (List ℕ)
unknown_item shape (item.Column n) = unknown_name shape n
unknown_item shape item.Count = None
unknown_item shape (item.Sum n) = unknown_name shape n
unknown_item shape (item.Min n) = unknown_name shape n
unknown_item shape (item.Max n) = unknown_name shape n

-- the first name of the items that no column has
abbrev pub unknown_in_items : Shape → List Item → Option (List ℕ)
unknown_in_items shape [] = None
unknown_in_items shape (i ∷ is) = option_or (unknown_item shape i) (unknown_in_items shape is)

-- the first of the names that no column has
abbrev pub unknown_in_names : Shape → List (List ℕ) → Option (List ℕ)
unknown_in_names shape [] = None
unknown_in_names shape (n ∷ ns) = option_or (unknown_name shape n) (unknown_in_names shape ns)

-- the first name of the filter that no column has, where there is a filter
abbrev pub unknown_in_where : Shape → Option Filter → Option (List ℕ)
unknown_in_where shape None = None
unknown_in_where shape (Some f) = unknown_in shape f

-- the first name of the filter that is compared with what is no value of its column, where there is a filter
abbrev pub type_error_in_where : Shape → Option Filter → Option (List ℕ)
type_error_in_where shape None = None
type_error_in_where shape (Some f) = type_error_in shape f

-- the type is one of numbers
abbrev pub adds_up : Option Kind → Bool
adds_up None = false
adds_up (Some kind) = is_number kind

-- the name of an item that is a type error: a sum of what is no number, or a plain column that isn't one of the groups'
abbrev pub type_error_of_item : Shape → Bool → List (List ℕ) → Item → Option (List ℕ)
type_error_of_item shape grouping group (item.Column n) = cond (grouping && not (has_name group n)) (Some n) None
type_error_of_item shape grouping group item.Count = None
type_error_of_item shape grouping group (item.Sum n) = cond (adds_up (kind_named shape.columns n)) None (Some n)
type_error_of_item shape grouping group (item.Min n) = None
type_error_of_item shape grouping group (item.Max n) = None

-- the first item that is a type error
abbrev pub type_error_in_items : Shape → Bool → List (List ℕ) → List Item → Option (List ℕ)
type_error_in_items shape grouping group [] = None
type_error_in_items shape grouping group (i ∷ is) = option_or (type_error_of_item shape grouping group i) (type_error_in_items shape grouping group is)

-- the first of these names that isn't one of the groups'
abbrev pub ungrouped : List (List ℕ) → List (List ℕ) → Option (List ℕ)
ungrouped group [] = None
ungrouped group (n ∷ ns) = cond (has_name group n) (ungrouped group ns) (Some n)

-- the first type error of a select list; no items mean all columns
abbrev pub type_error_in_select_list : Shape → List Item → List (List ℕ) → Option (List ℕ)
type_error_in_select_list shape [] group = cond (is_empty group) None (ungrouped group (names_of shape.columns))
type_error_in_select_list shape (i ∷ is) group = type_error_in_items shape (is_grouping is_aggregate (i ∷ is) group) group (i ∷ is)

-- why a query is refused: an unknown column anywhere comes before a wrong type
unfoldable pub query_refusal : Shape → Query → Option CheckError
query_refusal shape query =
    option_or (option_map (λ n. refusal.UnknownColumn n)
    (option_or (unknown_in_items shape query.items)
    (option_or (unknown_in_where shape query.filter) (unknown_in_names shape query.group))))
    (option_map (λ n. refusal.WrongType n)
    (option_or (type_error_in_select_list shape query.items query.group) (type_error_in_where shape query.filter)))
