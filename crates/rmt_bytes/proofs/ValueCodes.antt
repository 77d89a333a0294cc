-- Options, Strings and values tagged their types.
use Rattle.std.proofs.Common.{◌≡◌, ℕ, zero, suc, ◌^◌, ◌<◌, List, [], ◌∷◌, ◌++◌, length, Option, Some, None, IfSome, refl, sym, ap, subst, ◌∙◌, append_assoc, arith, ℤ}
use Rattle.std.specs.Int.{w16, w64, to_be_bytes, cast_unsigned, cast_signed}
use Rattle.std.specs.Prelude.{FitsSigned}
use Rattle.std.proofs.lemmas.Int.{to_z-of_z, of_z-to_z, ints}
use Rattle.rmt_values.specs.declared.value.Value.{Value}
use Rattle.rmt_values.specs.declared.value.Value.TheVariants.{UInt, Int, Text}
use Rattle.rmt_values.specs.Rows.{kind_of}
use Rattle.rmt_values.specs.declared.kind.Kind.{Kind}
use Rattle.rmt_values.specs.declared.kind.Kind.TheVariants as kinds
use Rattle.rmt_bytes.specs.Encoding.{AreBytes, partition_bytes, text_bytes, kind_byte, value_bytes, typed_bytes, IsInRange}
use Rattle.rmt_bytes.specs.Decoding.{mapped, decode_number, decode_signed, decode_bytes, decode_partition, decode_text, decode_kind, decode_value, decode_typed}
use Rattle.rmt_bytes.proofs.Codes.{◌>>=◌, Takes, Codes}
use Rattle.rmt_bytes.proofs.CodeLemmas.{bind_some, mapped_some}
use Rattle.rmt_bytes.proofs.NumberCodes.{number16, number64, bytes_code}

abbrev OfSome : {A : Type 0} → (A → List ℕ → Type 0) → Option (A × List ℕ) → Type 0
OfSome P (Some x) = P x.0 x.1
OfSome P None = Unit {0}

-- what a function makes of a value that was decoded
pub made : {A B : Type 0} {f : A → List ℕ} {F : A → Type 0} {r : List ℕ → Option (A × List ℕ)} → Codes f F r → (g : B → List ℕ) (G : B → Type 0) (make : A → B)
    → ((a : A) → g (make a) ≡ f a) → ((a : A) → F a → G (make a))
    → (all : List ℕ) (b : B) (rest : List ℕ) → AreBytes all → mapped make (r all) ≡ Some (b, rest) → Takes g G all b rest
made {r = r} code g G make encodes joins all b rest are e =
    let m = mapped_some make (r all) b rest e in
    let t = code.takes all m.0 rest are m.2 in
    subst (λ y. Takes g G all y rest) (sym m.1) (record {
      parts = t.parts ∙ ap (λ (l : List ℕ). l ++ rest) (sym (encodes m.0));
      fits = joins m.0 t.fits;
      rest_bytes = t.rest_bytes;
    })

-- the same, after a byte that tells what is to be made
pub tagged : {A B : Type 0} {f : A → List ℕ} {F : A → Type 0} {r : List ℕ → Option (A × List ℕ)} → Codes f F r → (g : B → List ℕ) (G : B → Type 0) (make : A → B)
    (tag : ℕ) → ((a : A) → g (make a) ≡ tag ∷ f a) → ((a : A) → F a → G (make a))
    → (all : List ℕ) (b : B) (rest : List ℕ) → AreBytes all → mapped make (r all) ≡ Some (b, rest) → Takes g G (tag ∷ all) b rest
tagged {r = r} code g G make tag spells joins all b rest are e =
    let m = mapped_some make (r all) b rest e in
    let t = code.takes all m.0 rest are m.2 in
    subst (λ y. Takes g G (tag ∷ all) y rest) (sym m.1) (record {
      parts = ap (λ (l : List ℕ). tag ∷ l) t.parts ∙ ap (λ (l : List ℕ). l ++ rest) (sym (spells m.0));
      fits = joins m.0 t.fits;
      rest_bytes = t.rest_bytes;
    })

partition_taken : (all : List ℕ) (o : Option ℕ) (rest : List ℕ) → AreBytes all → decode_partition all ≡ Some (o, rest) → Takes partition_bytes (λ o. IfSome o (λ n. n < 2 ^ 64)) all o rest
unfolding decode_partition
partition_taken [] o rest are e = absurd cc
partition_taken (zero ∷ all) o rest are e =
    subst (λ (y : Option (Option ℕ × List ℕ)). OfSome (λ o rest. Takes partition_bytes (λ o. IfSome o (λ n. n < 2 ^ 64)) (0 ∷ all) o rest) y) e (record { parts = refl; fits = tt; rest_bytes = are.1 })
partition_taken (suc zero ∷ all) o rest are e = tagged number64 partition_bytes (λ o. IfSome o (λ n. n < 2 ^ 64)) Some 1 (λ n. refl) (λ n lt. lt) all o rest are.1 e
partition_taken (suc (suc b) ∷ all) o rest are e = absurd cc

partition_again : (o : Option ℕ) (rest : List ℕ) → IfSome o (λ n. n < 2 ^ 64) → decode_partition (partition_bytes o ++ rest) ≡ Some (o, rest)
unfolding decode_partition
partition_again None rest fits = refl
partition_again (Some n) rest fits = ap (mapped Some) (number64.again n rest fits)

pub partition_code : Codes partition_bytes (λ o. IfSome o (λ n. n < 2 ^ 64)) decode_partition
partition_code = record { again = partition_again; takes = partition_taken }

text_again : (s rest : List ℕ) → (length s < 2 ^ 16) × AreBytes s → decode_text (text_bytes s ++ rest) ≡ Some (s, rest)
unfolding decode_text
text_again s rest fits =
    ap (λ (l : List ℕ). decode_number w16 l >>= λ n. decode_bytes n.0 n.1) (append_assoc (to_be_bytes w16 (length s)) s rest)
    ∙ ap (λ (o : Option (ℕ × List ℕ)). o >>= λ n. decode_bytes n.0 n.1) (number16.again (length s) (s ++ rest) fits.0)
    ∙ (bytes_code (length s)).again s rest (refl, fits.1)

text_taken : (all s rest : List ℕ) → AreBytes all → decode_text all ≡ Some (s, rest) → Takes text_bytes (λ s. (length s < 2 ^ 16) × AreBytes s) all s rest
unfolding decode_text
text_taken all s rest are e =
    let n = bind_some (decode_number w16 all) (λ n. decode_bytes n.0 n.1) (s, rest) e in
    let t = number16.takes all n.0.0 n.0.1 are n.1 in
    let u = (bytes_code n.0.0).takes n.0.1 s rest t.rest_bytes n.2 in
    record {
      parts = t.parts ∙ ap (λ (l : List ℕ). to_be_bytes w16 n.0.0 ++ l) u.parts ∙ sym (append_assoc (to_be_bytes w16 n.0.0) s rest) ∙ ap (λ (k : ℕ). (to_be_bytes w16 k ++ s) ++ rest) (sym u.fits.0);
      fits = (subst (λ k. k < 2 ^ 16) (sym u.fits.0) t.fits, u.fits.1);
      rest_bytes = u.rest_bytes;
    }

pub text_code : Codes text_bytes (λ s. (length s < 2 ^ 16) × AreBytes s) decode_text
text_code = record { again = text_again; takes = text_taken }

unsigned_below : (z : ℤ) → FitsSigned w64 z → cast_unsigned w64 z < 2 ^ 64
unsigned_below z fits = omega (arith, ints, fits)

signed_fits : (n : ℕ) → n < 2 ^ 64 → FitsSigned w64 (cast_signed w64 n)
signed_fits n lt = omega (arith, ints, lt)

signed_code : Codes (λ z. to_be_bytes w64 (cast_unsigned w64 z)) (FitsSigned w64) decode_signed
signed_code = record {
  again = λ z rest fits. ap (mapped (cast_signed w64)) (number64.again (cast_unsigned w64 z) rest (unsigned_below z fits)) ∙ ap (λ (z : ℤ). Some (z, rest)) (to_z-of_z w64 z fits);
  takes = λ all z rest are e.
      let m = mapped_some (cast_signed w64) (decode_number w64 all) z rest e in
      let t = number64.takes all m.0 rest are m.2 in
      subst (λ y. Takes (λ z. to_be_bytes w64 (cast_unsigned w64 z)) (FitsSigned w64) all y rest) (sym m.1) (record {
        parts = t.parts ∙ ap (λ (k : ℕ). to_be_bytes w64 k ++ rest) (sym (of_z-to_z w64 m.0 t.fits));
        fits = signed_fits m.0 t.fits;
        rest_bytes = t.rest_bytes;
      });
}

kind_again : (kind : Kind) (rest : List ℕ) → Unit {0} → decode_kind (kind_byte kind ∷ [] ++ rest) ≡ Some (kind, rest)
unfolding decode_kind
kind_again kinds.UInt64 rest fits = refl
kind_again kinds.Int64 rest fits = refl
kind_again kinds.Text rest fits = refl

abbrev KindTaken : List ℕ → Option (Kind × List ℕ) → Type 0
KindTaken all None = Unit {0}
KindTaken all (Some x) = Takes (λ kind. kind_byte kind ∷ []) (λ kind. Unit {0}) all x.0 x.1

kind_taken : (all : List ℕ) → AreBytes all → KindTaken all (decode_kind all)
unfolding decode_kind
kind_taken [] are = tt
kind_taken (zero ∷ all) are = tt
kind_taken (suc zero ∷ all) are = record { parts = refl; fits = tt; rest_bytes = are.1 }
kind_taken (suc (suc zero) ∷ all) are = record { parts = refl; fits = tt; rest_bytes = are.1 }
kind_taken (suc (suc (suc zero)) ∷ all) are = record { parts = refl; fits = tt; rest_bytes = are.1 }
kind_taken (suc (suc (suc (suc b))) ∷ all) are = tt

pub kind_code : Codes (λ kind. kind_byte kind ∷ []) (λ kind. Unit {0}) decode_kind
kind_code = record { again = kind_again; takes = λ all kind rest are e. subst (KindTaken all) e (kind_taken all are) }

value_again : (v : Value) (rest : List ℕ) → IsInRange v → decode_value (kind_of v) (value_bytes v ++ rest) ≡ Some (v, rest)
unfolding decode_value
value_again (UInt n) rest fits = ap (mapped UInt) (number64.again n rest fits)
value_again (Int z) rest fits = ap (mapped Int) (signed_code.again z rest fits)
value_again (Text s) rest fits = ap (mapped Text) (text_code.again s rest fits)

-- a value of this type in range
pub IsOf : Kind → Value → Type 0
IsOf kind v = (kind_of v ≡ kind) × IsInRange v

value_taken : (kind : Kind) (all : List ℕ) (v : Value) (rest : List ℕ) → AreBytes all → decode_value kind all ≡ Some (v, rest) → Takes value_bytes (IsOf kind) all v rest
unfolding decode_value IsOf
value_taken kinds.UInt64 all v rest are e = made number64 value_bytes (IsOf kinds.UInt64) UInt (λ n. refl) (λ n lt. (refl, lt)) all v rest are e
value_taken kinds.Int64 all v rest are e = made signed_code value_bytes (IsOf kinds.Int64) Int (λ z. refl) (λ z fits. (refl, fits)) all v rest are e
value_taken kinds.Text all v rest are e = made text_code value_bytes (IsOf kinds.Text) Text (λ s. refl) (λ s fits. (refl, fits)) all v rest are e

-- for the values of one type
pub value_code : (kind : Kind) → Codes value_bytes (IsOf kind) (decode_value kind)
unfolding IsOf
value_code kind = record {
  again = λ v rest fits. ap (λ (k : Kind). decode_value k (value_bytes v ++ rest)) (sym fits.0) ∙ value_again v rest fits.1;
  takes = value_taken kind;
}

-- for a value with its type
pub typed_code : Codes typed_bytes IsInRange decode_typed
unfolding IsOf
typed_code = record {
  again = λ v rest fits.
      ap (λ (o : Option (Kind × List ℕ)). o >>= λ kind. decode_value kind.0 kind.1) (kind_code.again (kind_of v) (value_bytes v ++ rest) tt)
      ∙ value_again v rest fits;
  takes = λ all v rest are e.
      let k = bind_some (decode_kind all) (λ kind. decode_value kind.0 kind.1) (v, rest) e in
      let t = kind_code.takes all k.0.0 k.0.1 are k.1 in
      let u = value_taken k.0.0 k.0.1 v rest t.rest_bytes k.2 in
      record {
        parts = t.parts ∙ ap (λ (l : List ℕ). kind_byte k.0.0 ∷ l) u.parts ∙ ap (λ (kind : Kind). kind_byte kind ∷ value_bytes v ++ rest) (sym u.fits.0);
        fits = u.fits.1;
        rest_bytes = u.rest_bytes;
      };
}
