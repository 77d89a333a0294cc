-- The text of a partition's id is read in one way.
use Rattle.std.proofs.Common.{◌≡◌, ℕ, zero, suc, lit<, ◌<◌, ◌≤◌, ◌^◌, ◌&&◌, Bool, true, false, cond, nat_lt, List, [], ◌∷◌, length, get_or, refl, sym, ap, subst, ◌∙◌, IfSome, arith}
use Rattle.std.specs.Prelude.{codes}
use Rattle.std.specs.declared.option.Option.{Option}
use Rattle.std.specs.declared.option.Option.TheVariants.{Some, None}
use Rattle.std.specs.Fmt.{decimal}
use Rattle.std.specs.Str.{bytes_eq, IsUtf8, IsAscii}
use Rattle.std.specs.Str.Parse.{digits_value}
use Rattle.std.proofs.lemmas.Bool.{and_parts, ltb-true, lt-ltb}
use Rattle.std.proofs.lemmas.Fmt.{decimal_is_IsNumeral, IsAscii-decimal}
use Rattle.std.proofs.lemmas.Slice.Eq.{bytes_eq-Decides}
use Rattle.std.proofs.lemmas.Str.{IsUtf8-from_ascii}
use Rattle.rmt_names.specs.Texts.{partition_text, partition_of_text}

-- a number below 2^64 is the one of its decimal
decimal_tests : (n : ℕ) (text : List ℕ) → n < 2 ^ 64 → decimal n ≡ text → (bytes_eq text (decimal (digits_value 10 text)) && nat_lt (digits_value 10 text) (2 ^ 64)) ≡ true
decimal_tests n text small is =
    let value : digits_value 10 text ≡ n = ap (digits_value 10) (sym is) ∙ (decimal_is_IsNumeral n small).1 in
    let spelled : text ≡ decimal (digits_value 10 text) = sym is ∙ ap decimal (sym value) in
    let equal = (bytes_eq-Decides text (decimal (digits_value 10 text))).1 spelled in
    let below = lt-ltb (digits_value 10 text) (2 ^ 64) (rw value small) in
    rw equal below

-- what is read of a text, where each partition's text is read, is exact
pub exact_text : (text : List ℕ) (found : Option (Option ℕ)) → IfSome found (λ p. IfSome p (λ n. n < 2 ^ 64)) → IfSome found (λ p. partition_text p ≡ text)
    → ((p : Option ℕ) → IfSome p (λ n. n < 2 ^ 64) → partition_text p ≡ text → found ≡ Some p) → found ≡ partition_of_text text
exact_text text found small read only = whole (bytes_eq text (codes "all")) refl
  where
    none : (found : Option (Option ℕ)) → IfSome found (λ p. IfSome p (λ n. n < 2 ^ 64)) → IfSome found (λ p. partition_text p ≡ text)
        → bytes_eq text (codes "all") ≡ false → (bytes_eq text (decimal (digits_value 10 text)) && nat_lt (digits_value 10 text) (2 ^ 64)) ≡ false → found ≡ None
    none None small read other unspelled = refl
    none (Some None) small read other unspelled = absurd (let equal = (bytes_eq-Decides text (codes "all")).1 (sym read) in cc)
    none (Some (Some n)) small read other unspelled = absurd (let spelled = decimal_tests n text small read in cc)

    number : (b : Bool) → (bytes_eq text (decimal (digits_value 10 text)) && nat_lt (digits_value 10 text) (2 ^ 64)) ≡ b → bytes_eq text (codes "all") ≡ false → found ≡ cond b (Some (Some (digits_value 10 text))) None
    number true e other =
        let parts = and_parts (bytes_eq text (decimal (digits_value 10 text))) (nat_lt (digits_value 10 text) (2 ^ 64)) e in
        only (Some (digits_value 10 text)) (ltb-true (digits_value 10 text) (2 ^ 64) parts.1) (sym ((bytes_eq-Decides text (decimal (digits_value 10 text))).0 parts.0))
    number false e other = none found small read other e

    whole : (b : Bool) → bytes_eq text (codes "all") ≡ b
        → found ≡ cond b (Some None) (cond (bytes_eq text (decimal (digits_value 10 text)) && nat_lt (digits_value 10 text) (2 ^ 64)) (Some (Some (digits_value 10 text))) None)
    whole true e = only None tt (sym ((bytes_eq-Decides text (codes "all")).0 e))
    whole false e = number (bytes_eq text (decimal (digits_value 10 text)) && nat_lt (digits_value 10 text) (2 ^ 64)) refl e

-- bytes that are no text are no partition's
pub text_is_utf8 : (p : Option ℕ) → IfSome p (λ n. n < 2 ^ 64) → IsUtf8 (partition_text p)
text_is_utf8 None small = IsUtf8-from_ascii (codes "all") all
  where
    all : IsAscii (codes "all")
    all zero = lit< tt
    all (suc zero) = lit< tt
    all (suc (suc zero)) = lit< tt
    all (suc (suc (suc i))) = lit< tt
text_is_utf8 (Some n) small = IsUtf8-from_ascii (decimal n) (IsAscii-decimal n small)
