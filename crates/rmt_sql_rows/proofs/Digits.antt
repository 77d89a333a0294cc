-- Digits one after the other.
use Rattle.std.proofs.Common.{◌≡◌, ℕ, zero, suc, ◌+◌, ◌-◌, ◌*◌, ◌^◌, ◌<◌, ◌≤◌, ◌==◌, List, [], ◌∷◌, ◌++◌, drop, length, length-append, get_or, Bool, true, false, cond, refl, sym, ap, ◌∙◌, arith}
use Rattle.std.specs.Prelude.{nat_le, nat_lt, IfSome}
use Rattle.std.specs.declared.option.Option.{Option}
use Rattle.std.specs.declared.option.Option.TheVariants.{None, Some}
use Rattle.std.specs.List.{prefix_len}
use Rattle.std.specs.Char.{is_ascii_digit}
use Rattle.std.proofs.lemmas.Bool.Decides.{nat_tests}
use Rattle.std.proofs.lemmas.List.{drop_all}
use Rattle.std.proofs.lemmas.List.Sums.{fold-append}
use Rattle.std.proofs.Math.Nat.{pow-suc}
use Rattle.rmt_sql_tokens.specs.Tokens.{value_of}
use Rattle.rmt_sql_rows.specs.InsertedRows.{is_number}

prefix-next : (bs : List ℕ) (i : ℕ) → i < length bs → is_ascii_digit (get_or bs i 0) ≡ true → prefix_len is_ascii_digit (drop i bs) ≡ 1 + prefix_len is_ascii_digit (drop (i + 1) bs)
prefix-next [] i h d = absurd (omega (arith, h))
prefix-next (b ∷ bs) zero h d = ap (λ (t : Bool). cond t (1 + prefix_len is_ascii_digit bs) 0) d
prefix-next (b ∷ bs) (suc i) h d = rw (let k : suc i + 1 ≡ suc (i + 1) = omega arith in k) (prefix-next bs i (omega (arith, h)) d)

-- the bytes before a place are digits
abbrev pub DigitsTo : List ℕ → ℕ → Type 0
DigitsTo bytes i = prefix_len is_ascii_digit bytes ≡ i + prefix_len is_ascii_digit (drop i bytes)

pub digits-next : (bytes : List ℕ) (i : ℕ) → i < length bytes → is_ascii_digit (get_or bytes i 0) ≡ true → DigitsTo bytes i → DigitsTo bytes (i + 1)
digits-next bytes i h d e = let n = prefix-next bytes i h d in omega (arith, n, e)

prefix-within : (bs : List ℕ) → prefix_len is_ascii_digit bs ≤ length bs
prefix-within [] = omega arith
prefix-within (b ∷ bs) = go (is_ascii_digit b) (prefix-within bs)
  where
    go : (t : Bool) → prefix_len is_ascii_digit bs ≤ length bs → cond t (1 + prefix_len is_ascii_digit bs) 0 ≤ suc (length bs)
    go true r = omega (arith, r)
    go false r = omega arith

-- all bytes are digits
pub digits-all : (bytes : List ℕ) (i : ℕ) → length bytes ≤ i → DigitsTo bytes i → prefix_len is_ascii_digit bytes ≡ length bytes
digits-all bytes i past d =
    let none : prefix_len is_ascii_digit (drop i bytes) ≡ 0 = rw (drop_all i bytes past) refl in
    let within = prefix-within bytes in
    omega (arith, none, within, d, past)

-- ---- numbers of few digits

-- a power of ten is at most each later one
pow10-later : (i k : ℕ) → 10 ^ i ≤ 10 ^ (k + i)
pow10-later i zero = let e : 10 ^ (0 + i) ≡ 10 ^ i = ap (λ (n : ℕ). 10 ^ n) (omega arith) in omega (arith, e)
pow10-later i (suc k) =
    let e : 10 ^ (suc k + i) ≡ 10 ^ (k + i) * 10 = ap (λ (n : ℕ). 10 ^ n) (omega arith) ∙ pow-suc 10 (k + i) in
    let r = pow10-later i k in omega (arith, e, r)

pow10-below : (i : ℕ) → i ≤ 18 → 10 ^ i ≤ 1000000000000000000
pow10-below i h =
    let same : (18 - i) + i ≡ 18 = omega (arith, h) in
    let e : 10 ^ ((18 - i) + i) ≡ 10 ^ 18 = ap (λ (n : ℕ). 10 ^ n) same in
    let r = pow10-later i (18 - i) in omega (arith, e, r)

-- a number of so few digits and one digit more
pub one-digit-more : (i size d : ℕ) → i < 19 → size < 10 ^ i → d < 10 → (size * 10 + d < 10 ^ (i + 1)) × (size * 10 + d < 2 ^ 64)
one-digit-more i size d few below digit =
    let s : 10 ^ (i + 1) ≡ 10 ^ i * 10 = ap (λ (n : ℕ). 10 ^ n) (omega arith) ∙ pow-suc 10 i in
    let m = pow10-below i (omega (arith, few)) in (
      omega (arith, s, below, digit),
      omega (arith, m, below, digit),
    )

-- ---- the last digit

prefix-last : (bs : List ℕ) (b : ℕ) → prefix_len is_ascii_digit bs ≡ length bs → is_ascii_digit b ≡ true → prefix_len is_ascii_digit (bs ++ b ∷ []) ≡ length (bs ++ b ∷ [])
prefix-last [] b h d = ap (λ (t : Bool). cond t 1 0) d
prefix-last (x ∷ xs) b h d = go (is_ascii_digit x) (λ e. prefix-last xs b e d) h
  where
    go : (t : Bool) → (prefix_len is_ascii_digit xs ≡ length xs → prefix_len is_ascii_digit (xs ++ b ∷ []) ≡ length (xs ++ b ∷ [])) → cond t (1 + prefix_len is_ascii_digit xs) 0 ≡ suc (length xs)
        → cond t (1 + prefix_len is_ascii_digit (xs ++ b ∷ [])) 0 ≡ suc (length (xs ++ b ∷ []))
    go true more e = let r = more (omega (arith, e)) in omega (arith, r)
    go false more e = absurd (omega (arith, e))

-- at most 38 digits and one more are a number
number-last : (bs : List ℕ) (b : ℕ) → length bs ≤ 38 → prefix_len is_ascii_digit bs ≡ length bs → is_ascii_digit b ≡ true → is_number (bs ++ b ∷ []) ≡ true
number-last bs b few h d =
    let n = length-append bs (b ∷ []) in
    let whole = prefix-last bs b h d in
    let lowest : nat_lt 0 (length (bs ++ b ∷ [])) ≡ true = grind (arith, nat_tests) in
    let highest : nat_le (length (bs ++ b ∷ [])) 39 ≡ true = grind (arith, nat_tests) in
    let same : (prefix_len is_ascii_digit (bs ++ b ∷ []) == length (bs ++ b ∷ [])) ≡ true = grind (arith, nat_tests) in
    rw (lowest, highest, same) refl

-- the value of digits and one more
value-last : (bs : List ℕ) (b : ℕ) → value_of (bs ++ b ∷ []) ≡ value_of bs * 10 + (b - 48)
value-last bs b = fold-append (λ n d. n * 10 + (d - 48)) 0 bs (b ∷ [])

-- the number of some digits and one more, where that one is a digit and the number has room
pub with-last : (made : Option ℕ) (bytes bs : List ℕ) (b size : ℕ) → bytes ≡ bs ++ b ∷ [] → length bs ≤ 38 → prefix_len is_ascii_digit bs ≡ length bs → size ≡ value_of bs
    → IfSome made (λ more. (is_ascii_digit b ≡ true) × (more ≡ size * 10 + (b - 48))) → IfSome made (λ n. (is_number bytes ≡ true) × (n ≡ value_of bytes))
with-last None bytes bs b size parts few digits is m = tt
with-last (Some n) bytes bs b size parts few digits is (d, e) = (
  rw parts (number-last bs b few digits d),
  rw parts (e ∙ (ap (λ (k : ℕ). k * 10 + (b - 48)) is ∙ sym (value-last bs b))),
)
