-- Which value a literal is in a column.
-- ClickHouse documentation: data types UInt64, Int64, String. That a literal out of its type's range is refused, and
-- that a number with a minus is a value of Int64 alone, are this program's own.
use Rattle.std.specs.Prelude.{ℕ, ◌^◌, ◌-ℤ◌, pos, cond, Bool, true, false, List, length, nat_lt, nat_le}
use Rattle.std.specs.declared.option.Option.{Option}
use Rattle.std.specs.declared.option.Option.TheVariants.{Some, None}
use Rattle.rmt_values.specs.declared.value.Value.{Value}
use Rattle.rmt_values.specs.declared.value.Value.TheVariants.{UInt, Int, Text}
use Rattle.rmt_values.specs.declared.kind.Kind.{Kind}
use Rattle.rmt_values.specs.declared.kind.Kind.TheVariants as kinds
use Rattle.rmt_values.specs.declared.literal.Literal.{Literal}
use Rattle.rmt_values.specs.declared.literal.Literal.TheVariants as literals

-- a number in the range of a type of numbers: whether a minus precedes it, and its digits' value
abbrev pub number_value : Kind → Bool → ℕ → Option Value
number_value kinds.UInt64 false size = cond (nat_lt size (2 ^ 64)) (Some (UInt size)) None
number_value kinds.UInt64 true size = None
number_value kinds.Int64 false size = cond (nat_lt size (2 ^ 63)) (Some (Int (pos size))) None
number_value kinds.Int64 true size = cond (nat_le size (2 ^ 63)) (Some (Int (pos 0 -ℤ pos size))) None
number_value kinds.Text minus size = None

-- the value of some bytes in a column of a type: a String of at most 65,535 bytes
abbrev pub text_value : Kind → List ℕ → Option Value
text_value kinds.Text bytes = cond (nat_le (length bytes) 65535) (Some (Text bytes)) None
text_value kind bytes = None

-- the value of a literal in a column of a type: a text is no number and a number no String
abbrev pub literal_value : Kind → Literal → Option Value
literal_value kind (literals.Number minus size) = number_value kind minus size
literal_value kind (literals.Text bytes) = text_value kind bytes
