-- The encodings of numbers, types, values and lists. Numbers have their most significant byte first.
-- Which bytes a value has is this program's own.
use Rattle.std.specs.Prelude.{◌≡◌, ℕ, ◌<◌, ◌^◌, List, [], ◌∷◌, ◌++◌, length, FitsSigned}
use Rattle.std.specs.Int.{w16, w64, to_be_bytes, cast_unsigned}
use Rattle.std.specs.List.{flat_map, AllByRecursion}
use Rattle.std.specs.declared.option.Option.{Option}
use Rattle.std.specs.declared.option.Option.TheVariants.{Some, None}
use Rattle.rmt_values.specs.Rows.{kind_of}
use Rattle.rmt_values.specs.declared.kind.Kind.{Kind}
use Rattle.rmt_values.specs.declared.kind.Kind.TheVariants as kinds
use Rattle.rmt_values.specs.declared.value.Value.{Value}
use Rattle.rmt_values.specs.declared.value.Value.TheVariants.{UInt, Int, Text}

-- the first bytes are a prefix of the second
abbrev pub Begins : List ℕ → List ℕ → Type 0
Begins first second = (rest : List ℕ) × (second ≡ first ++ rest)

-- each number of the list is a byte
abbrev pub AreBytes : List ℕ → Type 0
AreBytes bytes = AllByRecursion (λ b. b < 256) bytes

-- the encoding of an optional partition number: the byte 0 for none, or the byte 1 and the number in 8 bytes
abbrev pub partition_bytes : Option ℕ → List ℕ
partition_bytes None = 0 ∷ []
partition_bytes (Some n) = 1 ∷ to_be_bytes w64 n

-- the encoding of a String: its length in 2 bytes, and its bytes
abbrev pub text_bytes : List ℕ → List ℕ
text_bytes s = to_be_bytes w16 (length s) ++ s

-- the byte that encodes a type
abbrev pub kind_byte : Kind → ℕ
kind_byte kinds.UInt64 = 1
kind_byte kinds.Int64 = 2
kind_byte kinds.Text = 3

-- the encoding of a value whose type is known: a number in 8 bytes, an Int64 in two's complement, or a String
abbrev pub value_bytes : Value → List ℕ
value_bytes (UInt n) = to_be_bytes w64 n
value_bytes (Int z) = to_be_bytes w64 (cast_unsigned w64 z)
value_bytes (Text s) = text_bytes s

-- the encoding of a value with its type: the type, and the value
abbrev pub typed_bytes : Value → List ℕ
typed_bytes v = kind_byte (kind_of v) ∷ value_bytes v

-- a value that has an encoding: a number that its type holds, or fewer than 2^16 bytes
abbrev pub IsInRange : Value → Type 0
IsInRange (UInt n) = n < 2 ^ 64
IsInRange (Int z) = FitsSigned w64 z
IsInRange (Text s) = (length s < 2 ^ 16) × AreBytes s

-- the encoding of a list: the number of its elements in 2 bytes, and the encodings of the elements
abbrev pub list_bytes : {A : Type 0} → (A → List ℕ) → List A → List ℕ
list_bytes bytes xs = to_be_bytes w16 (length xs) ++ flat_map bytes xs
