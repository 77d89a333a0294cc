-- Decimals: what is in them, and which text is read as which number.
use Rattle.std.proofs.Common.{◌≡◌, ◌≢◌, ℕ, zero, suc, ◌<◌, ◌^◌, true, false, List, [], ◌∷◌, length, get_or, Some, Result, Ok, Err, IfSome, ap, sym, ◌∙◌, refl, arith}
use Rattle.std.specs.Int.{IsInRange}
use Rattle.std.specs.Fmt.{decimal}
use Rattle.std.specs.Result.{result_ok}
use Rattle.std.specs.Str.{bytes_eq}
use Rattle.std.specs.Str.Parse.{AllDigits, digits_value, ParsesUnsigned}
use Rattle.std.proofs.lemmas.Fmt.{digits_decimal, decimal-digits_value, decimal_digit, decimal_injective, parse-decimal, first_decimal, decimal_nonempty}
use Rattle.std.proofs.lemmas.Slice.Eq.{bytes_eq-Decides}
use Rattle.std.proofs.lemmas.Str.Parse.{IsNumeralModel, numerals_by_value, tells_digits, parse_plain, not_in_digits}

-- the digits and their value, in std's own words
own : IsNumeralModel (AllDigits 10) (digits_value 10)
own = numerals_by_value (AllDigits 10) tells_digits

-- no byte but a digit is in a decimal
pub decimal_lacks :
    (c n : ℕ) → ¬ (IsInRange 48 57 c) → n < 2 ^ 64 → (i : ℕ) → i < length (decimal n) → get_or (decimal n) i 0 ≢ c
decimal_lacks c n other small = not_in_digits own (decimal n) c (digits_decimal own n small) other

-- the decimal of 0 is the one digit
pub decimal-zero : decimal 0 ≡ 48 ∷ []
decimal-zero = decimal_digit 0 (omega arith)

-- a text that is tested to be `0` is the decimal of 0
pub decimal_of_zero : (bs : List ℕ) → bytes_eq bs (48 ∷ []) ≡ true → decimal 0 ≡ bs
decimal_of_zero bs test = decimal-zero ∙ sym ((bytes_eq-Decides bs (48 ∷ [])).0 test)

-- and of no other number
pub decimal_only_zero :
    (bs : List ℕ) → bytes_eq bs (48 ∷ []) ≡ true → (n : ℕ) → n < 2 ^ 64 → decimal n ≡ bs → Some 0 ≡ Some n
decimal_only_zero bs test n small is =
    ap Some (decimal_injective 0 n (omega arith) small (decimal_of_zero bs test ∙ sym is))

-- no sign comes before a decimal
pub decimal_unsigned : (bs : List ℕ) (n : ℕ) → n < 2 ^ 64 → decimal n ≡ bs → get_or bs 0 0 ≢ 43
decimal_unsigned bs n small is =
    rw (← is) (decimal_lacks 43 n (λ within. omega arith) small 0 (decimal_nonempty n small))

-- only that of 0 begins with a zero
decimal_unpadded : (n : ℕ) → n < 2 ^ 64 → get_or (decimal n) 0 0 ≡ 48 → n ≡ 0
decimal_unpadded zero small padded = refl
decimal_unpadded (suc n) small padded = absurd (omega (arith, first_decimal (suc n) (omega arith) small))

-- so no zero comes before another
pub decimal_nonzero :
    (bs : List ℕ) (n : ℕ) → n < 2 ^ 64 → decimal n ≡ bs → bytes_eq bs (48 ∷ []) ≡ false → get_or bs 0 0 ≢ 48
decimal_nonzero bs n small is test padded =
    let zero_is : n ≡ 0 = decimal_unpadded n small (rw is padded) in
    let text_is : bs ≡ 48 ∷ [] = sym is ∙ ap decimal zero_is ∙ decimal-zero in
    let tested : bytes_eq bs (48 ∷ []) ≡ true = (bytes_eq-Decides bs (48 ∷ [])).1 text_is in
    cc

-- what std reads, with no sign and no zero at the start, is the number of this decimal
pub decimal_read :
    {E : Type 0} (bs : List ℕ) (r : Result ℕ E) → ParsesUnsigned 64 10 bs r → get_or bs 0 0 ≢ 43
    → get_or bs 0 0 ≢ 48 → IfSome (result_ok r) (λ n. decimal n ≡ bs)
decimal_read {E = E} bs (Err e) reads unsigned unpadded = tt
decimal_read {E = E} bs (Ok n) reads unsigned unpadded =
    let ((digits, some, small), is) = parse_plain own {E = E} 64 bs (Ok n) reads unsigned in
    rw is (decimal-digits_value own bs digits some (λ padded. absurd (unpadded padded)) small)

-- std reads each decimal
pub decimal_only :
    {E : Type 0} (bs : List ℕ) (r : Result ℕ E) → ParsesUnsigned 64 10 bs r → (n : ℕ) → n < 2 ^ 64 → decimal n ≡ bs
    → result_ok r ≡ Some n
decimal_only bs r reads n small is = ap result_ok (parse-decimal 64 n bs r small small (sym is) reads)
