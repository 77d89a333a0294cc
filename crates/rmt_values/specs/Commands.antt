-- What a command does to a row.
-- ClickHouse documentation: ALTER TABLE .. UPDATE, ALTER TABLE .. DELETE. That plus and minus wrap modulo 2^64 is as in
-- its arithmetic functions on 64 bits.
use Rattle.std.specs.Prelude.{ℕ, ◌+◌, ◌-◌, ◌%◌, ◌^◌, ◌≡◌, cond, nat_eq, Bool, true, false, List, [], ◌∷◌, slice_get}
use Rattle.std.specs.Option.{unwrap_or}
use Rattle.std.specs.Int.{int_wrapping_add, int_wrapping_sub, w64}
use Rattle.std.specs.declared.option.Option.{Option}
use Rattle.std.specs.declared.option.Option.TheVariants.{Some, None}
use Rattle.rmt_values.specs.declared.value.Value.{Value}
use Rattle.rmt_values.specs.declared.value.Value.TheVariants.{UInt, Int}
use Rattle.rmt_values.specs.declared.checked_right.CheckedRight.{CheckedRight}
use Rattle.rmt_values.specs.declared.checked_right.CheckedRight.TheVariants as right
use Rattle.rmt_values.specs.declared.checked_mutation.CheckedMutation.{CheckedMutation}
use Rattle.rmt_values.specs.declared.checked_mutation.CheckedMutation.TheVariants.{Update, Delete}
use Rattle.rmt_values.specs.declared.kind.Kind.{Kind}
use Rattle.rmt_values.specs.declared.kind.Kind.TheVariants as kinds
use Rattle.rmt_values.specs.declared.partition_rule.PartitionRule.{PartitionRule}
use Rattle.rmt_values.specs.Rows.{Shape, kind_at}
use Rattle.rmt_values.specs.Filters.{holds, FilterFits, IsOfColumn}

-- the sum, modulo 2^64
abbrev pub plus : Value → Value → Value
plus (UInt a) (UInt b) = UInt ((a + b) % 2 ^ 64)
plus (Int a) (Int b) = Int (int_wrapping_add w64 a b)
plus a b = a

-- the difference, modulo 2^64
abbrev pub minus : Value → Value → Value
minus (UInt a) (UInt b) = UInt ((a + (2 ^ 64 - b)) % 2 ^ 64)
minus (Int a) (Int b) = Int (int_wrapping_sub w64 a b)
minus a b = a

-- the value in a column
abbrev pub cell_or : List Value → ℕ → Value → Value
cell_or row c old = unwrap_or (slice_get row c) old

-- what the first pair for a column sets it to
abbrev pub set_from : List (ℕ × CheckedRight) → ℕ → Option CheckedRight
set_from [] c = None
set_from (s ∷ ss) c = cond (nat_eq s.0 c) (Some s.1) (set_from ss c)

-- the value that a column gets, all right sides read from the old row
abbrev pub new_value : Option CheckedRight → List Value → Value → Value
new_value None row old = old
new_value (Some (right.Literal v)) row old = v
new_value (Some (right.Column c)) row old = cell_or row c old
new_value (Some (right.Plus c by)) row old = plus (cell_or row c old) by
new_value (Some (right.Minus c by)) row old = minus (cell_or row c old) by

-- the columns from the one at place i on, each with its new value
abbrev pub updated_from : ℕ → List (ℕ × CheckedRight) → List Value → List Value → List Value
updated_from i sets row [] = []
updated_from i sets row (v ∷ vs) = new_value (set_from sets i) row v ∷ updated_from (i + 1) sets row vs

-- a row after the command: none where it deletes the row
unfoldable pub applied : CheckedMutation → List Value → Option (List Value)
applied (Update sets filter) row = cond (holds filter row) (Some (updated_from 0 sets row row)) (Some row)
applied (Delete filter) row = cond (holds filter row) None (Some row)

-- ---- commands of a schema

-- both columns are there, and of one type
pub record AreAlike (shape : Shape) (column other : ℕ) : Type 0 where
  pub kind : Kind
  pub first : kind_at shape.columns column ≡ Some kind
  pub second : kind_at shape.columns other ≡ Some kind

-- a type of numbers
abbrev pub is_number : Kind → Bool
is_number kinds.UInt64 = true
is_number kinds.Int64 = true
is_number kinds.Text = false

-- the columns and the number are of one type of numbers
pub record AddsUp (shape : Shape) (target column : ℕ) (by : Value) : Type 0 where
  pub alike : AreAlike shape target column
  pub number : is_number alike.kind ≡ true
  pub by_is : IsOfColumn shape column by

-- what a column may be set to
abbrev pub RightFits : Shape → ℕ → CheckedRight → Type 0
RightFits shape target (right.Literal v) = IsOfColumn shape target v
RightFits shape target (right.Column c) = AreAlike shape target c
RightFits shape target (right.Plus c by) = AddsUp shape target c by
RightFits shape target (right.Minus c by) = AddsUp shape target c by

-- the column is none of these
abbrev pub NotAmong : List ℕ → ℕ → Type 0
NotAmong [] column = Unit {0}
NotAmong (c ∷ cs) column = (c ≡ column → ⊥) × NotAmong cs column

-- the column of the partition rule, where there is one
abbrev pub rule_columns : Option PartitionRule → List ℕ
rule_columns None = []
rule_columns (Some rule) = rule.column ∷ []

-- no pair sets this column
abbrev pub SetsNot : ℕ → List (ℕ × CheckedRight) → Type 0
SetsNot column [] = Unit {0}
SetsNot column (s ∷ ss) = (s.0 ≡ column → ⊥) × SetsNot column ss

-- a set of an UPDATE of a schema: of no column of the sorting key, and not of that of the partition rule
pub record SetFits (shape : Shape) (column : ℕ) (what : CheckedRight) : Type 0 where
  pub no_key : NotAmong shape.key column
  pub no_partition : NotAmong (rule_columns shape.partition) column
  pub value : RightFits shape column what

-- each column is set once, and may be set so
abbrev pub SetsFit : Shape → List (ℕ × CheckedRight) → Type 0
SetsFit shape [] = Unit {0}
SetsFit shape (s ∷ ss) = SetFits shape s.0 s.1 × SetsNot s.0 ss × SetsFit shape ss

-- a command of a schema
abbrev pub CommandFits : Shape → CheckedMutation → Type 0
CommandFits shape (Update sets filter) = SetsFit shape sets × FilterFits shape filter
CommandFits shape (Delete filter) = FilterFits shape filter
