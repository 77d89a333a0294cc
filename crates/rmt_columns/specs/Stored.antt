-- How a column's values lie in memory. No public clause cites this module.
use Rattle.std.specs.Prelude.{List, map}
use Rattle.rmt_values.specs.declared.value.Value.{Value}
use Rattle.rmt_values.specs.declared.value.Value.TheVariants.{UInt, Int, Text}
use Rattle.rmt_values.specs.declared.kind.Kind.{Kind}
use Rattle.rmt_values.specs.declared.kind.Kind.TheVariants as kinds
use Rattle.rmt_columns.specs.declared.column_values.Stored.{Stored}
use Rattle.rmt_columns.specs.declared.column_values.Stored.TheVariants.{Unsigned, Signed, Texts}

-- the values that are stored
abbrev pub values_of : Stored → List Value
values_of (Unsigned all) = map (λ n. UInt n) all.items
values_of (Signed all) = map (λ z. Int z) all.items
values_of (Texts all) = map (λ b. Text b) all

-- their type
abbrev pub kind_of_stored : Stored → Kind
kind_of_stored (Unsigned all) = kinds.UInt64
kind_of_stored (Signed all) = kinds.Int64
kind_of_stored (Texts all) = kinds.Text
