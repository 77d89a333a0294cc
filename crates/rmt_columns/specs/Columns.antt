-- Values of one column, and single ones that lie in it.
-- ClickHouse documentation: A practical introduction to primary indexes in ClickHouse (data is stored by columns).
use Rattle.std.specs.Prelude.{List}
use Rattle.rmt_values.specs.declared.kind.Kind.{Kind}
use Rattle.rmt_values.specs.declared.value.Value.{Value}
use Rattle.rmt_values.specs.declared.value.Value.TheVariants.{UInt, Int, Text}
use Rattle.rmt_columns.specs.declared.value_ref.ValueRef.{ValueRef}
use Rattle.rmt_columns.specs.declared.value_ref.ValueRef.TheVariants as refs

-- a column: its type, and a value for each row
pub record ColumnView : Type 0 where
  pub kind : Kind
  pub values : List Value

-- the value that lies there
abbrev pub value_of : ValueRef → Value
value_of (refs.UInt n) = UInt n
value_of (refs.Int z) = Int z
value_of (refs.Text bytes) = Text bytes.now
