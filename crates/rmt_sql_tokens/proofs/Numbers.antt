-- The value of digits, from the left.
use Rattle.std.proofs.Common.{◌≡◌, ◌∙◌, ℕ, ◌+◌, ◌*◌, ◌-◌, ◌≤◌, ◌<◌, List, [], ◌∷◌, ◌++◌, length, take, drop, ap, get_or, arith}
use Rattle.std.specs.Prelude.{fold}
use Rattle.std.proofs.lemmas.List.{take_more, take-append-drop}
use Rattle.std.proofs.lemmas.List.Sums.{fold-append}
use Rattle.rmt_sql_tokens.specs.Tokens.{value_of}

abbrev pub more_digit : ℕ → ℕ → ℕ
more_digit n d = n * 10 + (d - 48)

-- further digits make no number less
pub grows : (n : ℕ) (digits : List ℕ) → n ≤ fold more_digit n digits
grows n [] = omega arith
grows n (d ∷ ds) = let more = grows (more_digit n d) ds in omega (arith, more)

pub value_more : (digits : List ℕ) (i : ℕ) → i < length digits → value_of (take (i + 1) digits) ≡ more_digit (value_of (take i digits)) (get_or digits i 0)
value_more digits i h = ap value_of (take_more digits i 0 h) ∙ fold-append more_digit 0 (take i digits) (get_or digits i 0 ∷ [])

-- what a prefix of the digits passes, all of them pass
pub value_prefix : (digits : List ℕ) (i : ℕ) → value_of (take i digits) ≤ value_of digits
value_prefix digits i =
    let whole : fold more_digit 0 (take i digits ++ drop i digits) ≡ value_of digits = ap value_of (take-append-drop i digits) in
    let parts = fold-append more_digit 0 (take i digits) (drop i digits) in
    let more = grows (value_of (take i digits)) (drop i digits) in
    omega (arith, whole, parts, more)

-- too large already with the next digit
pub too_large : (digits : List ℕ) (i n : ℕ) → i < length digits → n ≤ more_digit (value_of (take i digits)) (get_or digits i 0) → n ≤ value_of digits
too_large digits i n h large =
    let next = value_more digits i h in
    let all = value_prefix digits (i + 1) in
    omega (arith, next, all, large)
