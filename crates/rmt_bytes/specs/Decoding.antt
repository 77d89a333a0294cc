-- Decoding from left to right. A decoder takes bytes: it gives the value that a prefix of them encodes and the rest,
-- or nothing where no prefix encodes a value.
use Rattle.std.specs.Prelude.{◌≡◌, ℕ, zero, suc, Bool, cond, ℤ, List, [], ◌∷◌, length, take, drop, nat_lt}
use Rattle.std.specs.Borrow.{Bor}
use Rattle.std.specs.Int.{Width, w16, w64, byte_len, from_be_bytes, cast_signed}
use Rattle.std.specs.Option.{option_and_then}
use Rattle.std.specs.declared.option.Option.{Option}
use Rattle.std.specs.declared.option.Option.TheVariants.{Some, None}
use Rattle.std.specs.declared.result.Result.{Result}
use Rattle.std.specs.declared.result.Result.TheVariants.{Ok, Err}
use Rattle.rmt_values.specs.declared.kind.Kind.{Kind}
use Rattle.rmt_values.specs.declared.kind.Kind.TheVariants as kinds
use Rattle.rmt_values.specs.declared.value.Value.{Value}
use Rattle.rmt_values.specs.declared.value.Value.TheVariants.{UInt, Int, Text}
use Rattle.rmt_bytes.specs.declared.decode_error.DecodeError.{DecodeError}
use Rattle.rmt_bytes.specs.declared.decode_error.DecodeError.TheVariants as errors

-- a decoder of such values
abbrev pub Decoder : Type 0 → Type 0
Decoder A = List ℕ → Option (A × List ℕ)

-- bytes are malformed exactly where the decoder gives nothing; that memory ran out tells nothing of them
abbrev pub Fails : {A : Type 0} → DecodeError → Option A → Type 0
Fails errors.Memory decoded = Unit {0}
Fails errors.Malformed decoded = decoded ≡ None

-- the result, of which contracts see this, is what the decoder gives
abbrev pub Decodes : {X A : Type 0} → (X → A) → Result X DecodeError → Option A → Type 0
Decodes view (Ok x) decoded = decoded ≡ Some (view x)
Decodes view (Err e) decoded = Fails e decoded

-- the result, a value and the rest of the bytes, is what the decoder gives
abbrev pub DecodesPrefix : {A : Type 0} → Result (A × Bor (List ℕ)) DecodeError → Option (A × List ℕ) → Type 0
DecodesPrefix (Ok x) decoded = decoded ≡ Some (x.0, x.1.now)
DecodesPrefix (Err e) decoded = Fails e decoded

-- what a function makes of the value, and the rest
abbrev pub mapped : {A B : Type 0} → (A → B) → Option (A × List ℕ) → Option (B × List ℕ)
mapped f (Some x) = Some (f x.0, x.1)
mapped f None = None

-- two values, the second from the rest after the first
abbrev pub decode_both : {A B : Type 0} → Decoder A → Decoder B → List ℕ → Option ((A × B) × List ℕ)
decode_both first second bytes =
    option_and_then (λ a. option_and_then (λ b. Some ((a.0, b.0), b.1)) (second a.1)) (first bytes)

-- a value that passes a test
abbrev pub decode_tested : {A : Type 0} → (A → Bool) → Decoder A → List ℕ → Option (A × List ℕ)
decode_tested test decode bytes = option_and_then (λ x. cond (test x.0) (Some x) None) (decode bytes)

-- so many values, one after the other
abbrev pub decode_many : {A : Type 0} → Decoder A → ℕ → List ℕ → Option (List A × List ℕ)
decode_many decode zero bytes = Some ([], bytes)
decode_many decode (suc n) bytes =
    option_and_then (λ a. option_and_then (λ b. Some (a.0 ∷ b.0, b.1)) (decode_many decode n a.1)) (decode bytes)

-- so many bytes
abbrev pub decode_bytes : ℕ → List ℕ → Option (List ℕ × List ℕ)
decode_bytes n bytes = cond (nat_lt (length bytes) n) None (Some (take n bytes, drop n bytes))

-- one byte
abbrev pub decode_byte : List ℕ → Option (ℕ × List ℕ)
decode_byte [] = None
decode_byte (b ∷ bytes) = Some (b, bytes)

-- a number of this width
abbrev pub decode_number : Width → List ℕ → Option (ℕ × List ℕ)
decode_number w bytes = mapped (from_be_bytes w) (decode_bytes (byte_len w) bytes)

-- a signed number of 8 bytes
abbrev pub decode_signed : List ℕ → Option (ℤ × List ℕ)
decode_signed bytes = mapped (cast_signed w64) (decode_number w64 bytes)

-- a list, from the number of its elements on
abbrev pub decode_list : {A : Type 0} → Decoder A → List ℕ → Option (List A × List ℕ)
decode_list decode bytes = option_and_then (λ n. decode_many decode n.0 n.1) (decode_number w16 bytes)

-- an optional partition number
unfoldable pub decode_partition : List ℕ → Option (Option ℕ × List ℕ)
decode_partition [] = None
decode_partition (zero ∷ rest) = Some (None, rest)
decode_partition (suc zero ∷ rest) = mapped Some (decode_number w64 rest)
decode_partition (suc (suc b) ∷ rest) = None

-- a String, from its length on
unfoldable pub decode_text : List ℕ → Option (List ℕ × List ℕ)
decode_text bytes = option_and_then (λ n. decode_bytes n.0 n.1) (decode_number w16 bytes)

-- a type
unfoldable pub decode_kind : List ℕ → Option (Kind × List ℕ)
decode_kind [] = None
decode_kind (zero ∷ rest) = None
decode_kind (suc zero ∷ rest) = Some (kinds.UInt64, rest)
decode_kind (suc (suc zero) ∷ rest) = Some (kinds.Int64, rest)
decode_kind (suc (suc (suc zero)) ∷ rest) = Some (kinds.Text, rest)
decode_kind (suc (suc (suc (suc b))) ∷ rest) = None

-- a value of this type
unfoldable pub decode_value : Kind → List ℕ → Option (Value × List ℕ)
decode_value kinds.UInt64 bytes = mapped UInt (decode_number w64 bytes)
decode_value kinds.Int64 bytes = mapped Int (decode_signed bytes)
decode_value kinds.Text bytes = mapped Text (decode_text bytes)

-- a value, from its type on
abbrev pub decode_typed : List ℕ → Option (Value × List ℕ)
decode_typed bytes = option_and_then (λ kind. decode_value kind.0 kind.1) (decode_kind bytes)
