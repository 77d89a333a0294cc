-- Values and rows, their types and their order.
-- ClickHouse documentation: data types UInt64, Int64, String; MergeTree, ORDER BY. A String's length is this program's own limit.
use Rattle.std.specs.Prelude.{ℕ, ◌+◌, cond, nat_eq, nat_le, length, ◌<◌, ◌&&◌, Bool, true, false, List, [], ◌∷◌, map, slice_get}
use Rattle.std.specs.Ordering.{nat_cmp, int_cmp}
use Rattle.std.specs.Cmp.Lexicographic.{pointwise}
use Rattle.std.specs.Option.{option_map}
use Rattle.std.specs.declared.option.Option.{Option}
use Rattle.std.specs.declared.option.Option.TheVariants.{Some, None}
use Rattle.std.specs.declared.cmp.Ordering.{Ordering}
use Rattle.std.specs.declared.cmp.Ordering.TheVariants.{Less, Equal, Greater}
use Rattle.std.specs.Cmp.Lexicographic.{slice_cmp}
use Rattle.rmt_values.specs.Order.{in_order}
use Rattle.rmt_values.specs.declared.value.Value.{Value}
use Rattle.rmt_values.specs.declared.value.Value.TheVariants.{UInt, Int, Text}
use Rattle.rmt_values.specs.declared.column.Column.{Column}
use Rattle.rmt_values.specs.declared.partition_rule.PartitionRule.{PartitionRule}
use Rattle.rmt_values.specs.declared.kind.Kind.{Kind}
use Rattle.rmt_values.specs.declared.kind.Kind.TheVariants as kinds

-- a schema: its columns, the places of its key columns in their order, the rule by which it is divided, the rows of a
-- granule, the blocks that the window of insert deduplication keeps
pub record Shape : Type 0 where
  pub columns : List Column
  pub key : List ℕ
  pub partition : Option PartitionRule
  pub granularity : ℕ
  pub window : ℕ

-- the list has no element
abbrev pub is_empty : {X : Type 0} → List X → Bool
is_empty [] = true
is_empty (x ∷ xs) = false

-- each number is below n
abbrev pub AllBelow : ℕ → List ℕ → Type 0
AllBelow n [] = Unit {0}
AllBelow n (c ∷ cs) = (c < n) × AllBelow n cs

-- the type of a value
abbrev pub kind_of : Value → Kind
kind_of (UInt a) = kinds.UInt64
kind_of (Int a) = kinds.Int64
kind_of (Text a) = kinds.Text

-- a String has at most 65,535 bytes; a number that its type holds is a value
abbrev pub is_value : Value → Bool
is_value (UInt a) = true
is_value (Int a) = true
is_value (Text a) = nat_le (length a) 65535

-- the two types are the same
abbrev pub same_kind : Kind → Kind → Bool
same_kind kinds.UInt64 kinds.UInt64 = true
same_kind kinds.Int64 kinds.Int64 = true
same_kind kinds.Text kinds.Text = true
same_kind k l = false

-- a value of this type
abbrev pub is_of : Kind → Value → Bool
is_of kind v = same_kind (kind_of v) kind && is_value v

-- one value per column, each of the column's type
abbrev pub fits : List Column → List Value → Bool
fits [] [] = true
fits [] (v ∷ vs) = false
fits (k ∷ ks) [] = false
fits (k ∷ ks) (v ∷ vs) = is_of k.kind v && fits ks vs

-- the place of the first column of this name, counted from i
abbrev pub place_from : ℕ → List Column → List ℕ → Option ℕ
place_from i [] name = None
place_from i (c ∷ cs) name = cond (pointwise nat_eq c.name name) (Some i) (place_from (i + 1) cs name)

-- the kind of the column at a place
abbrev pub kind_at : List Column → ℕ → Option Kind
kind_at columns i = option_map (λ c. c.kind) (slice_get columns i)

-- the type of the column at a place, where there is one
abbrev pub kind_there : List Column → Option ℕ → Option Kind
kind_there columns None = None
kind_there columns (Some i) = kind_at columns i

-- the type of the first column of this name
abbrev pub kind_named : List Column → List ℕ → Option Kind
kind_named columns name = kind_there columns (place_from 0 columns name)

-- numbers as numbers, texts by their bytes; different types in the order of the types
abbrev pub value_cmp : Value → Value → Ordering
value_cmp (UInt a) (UInt b) = nat_cmp a b
value_cmp (UInt a) (Int b) = Less
value_cmp (UInt a) (Text b) = Less
value_cmp (Int a) (UInt b) = Greater
value_cmp (Int a) (Int b) = int_cmp a b
value_cmp (Int a) (Text b) = Less
value_cmp (Text a) (UInt b) = Greater
value_cmp (Text a) (Int b) = Greater
value_cmp (Text a) (Text b) = slice_cmp nat_cmp a b

-- the same, where a value may be missing
abbrev pub cell_cmp : Option Value → Option Value → Ordering
cell_cmp None None = Equal
cell_cmp None (Some b) = Less
cell_cmp (Some a) None = Greater
cell_cmp (Some a) (Some b) = value_cmp a b

-- the values of the key columns
abbrev pub key_of : List ℕ → List Value → List (Option Value)
key_of key row = map (λ c. slice_get row c) key

-- the order of rows by their keys
abbrev pub key_cmp : List ℕ → List Value → List Value → Ordering
key_cmp key a b = slice_cmp cell_cmp (key_of key a) (key_of key b)

-- rows in the order of their keys; those of equal keys as they were
unfoldable pub in_key_order : Shape → List (List Value) → List (List Value)
in_key_order shape rows = in_order (key_cmp shape.key) rows
