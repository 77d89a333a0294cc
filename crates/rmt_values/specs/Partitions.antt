-- Which partition a row is of.
-- ClickHouse documentation: MergeTree, custom partitioning key; functions, `intDiv`.
use Rattle.std.specs.Prelude.{◌≡◌, ℕ, ◌/◌, ◌≤◌, List, slice_get}
use Rattle.std.specs.declared.option.Option.{Option}
use Rattle.std.specs.declared.option.Option.TheVariants.{Some, None}
use Rattle.rmt_values.specs.declared.value.Value.{Value}
use Rattle.rmt_values.specs.declared.value.Value.TheVariants.{UInt, Int, Text}
use Rattle.rmt_values.specs.declared.kind.Kind.TheVariants as kinds
use Rattle.rmt_values.specs.declared.column.Column.{Column}
use Rattle.rmt_values.specs.declared.partition_rule.PartitionRule.{PartitionRule}
use Rattle.rmt_values.specs.Rows.{kind_at}

-- the number in a cell; 0 where there is none
abbrev pub number_in : Option Value → ℕ
number_in (Some (UInt n)) = n
number_in (Some (Int z)) = 0
number_in (Some (Text s)) = 0
number_in None = 0

-- the partition of a row: that of the whole table without a rule, else the number in the rule's column, divided
abbrev pub partition_of : Option PartitionRule → List Value → Option ℕ
partition_of None row = None
partition_of (Some rule) row = Some (number_in (slice_get row rule.column) / rule.divisor)

-- the column is one of UInt64, and the divisor isn't 0
pub record Divides (columns : List Column) (rule : PartitionRule) : Type 0 where
  pub typed : kind_at columns rule.column ≡ Some kinds.UInt64
  pub some : 1 ≤ rule.divisor

-- there is no rule, or it is one of these columns
abbrev pub IsRule : List Column → Option PartitionRule → Type 0
IsRule columns None = Unit {0}
IsRule columns (Some rule) = Divides columns rule
