-- Names with ten digits: their order is that of their numbers, and what is read of them.
use Rattle.std.proofs.Common.{◌≡◌, inl, inr, ◌⊎◌, ℕ, zero, suc, ◌+◌, ◌-◌, ◌/◌, ◌%◌, ◌^◌, ◌<◌, ◌≤◌, true, List, [], ◌∷◌, ◌++◌, length, take, drop, length-drop, slice_index, refl, sym, ap, subst, arith, ◌∙◌, length-append}
use Rattle.std.proofs.lemmas.List.{drop_at, take_all}
use Rattle.std.proofs.lemmas.Str.{digit_value_digit, IsAscii-append, IsUtf8-from_ascii}
use Rattle.std.proofs.lemmas.Str.Ascii.{IsAscii-nil}
use Rattle.std.proofs.lemmas.Str.Parse.{IsNumeralModel, numerals_by_value, tells_digits, parse_gives}
use Rattle.std.proofs.Math.Nat.{pow-succ'}
use Rattle.std.specs.Char.{digit_value}
use Rattle.std.specs.Str.{IsAscii, IsUtf8}
use Rattle.std.specs.Str.Parse.{AllDigits, digits_value, ParsesUnsigned}
use Rattle.std.specs.Result.{result_ok}
use Rattle.std.specs.Ordering.{is_lt, nat_cmp, ordering_then}
use Rattle.std.specs.Cmp.Lexicographic.{slice_cmp, nat_list_cmp_total}
use Rattle.std.specs.declared.cmp.Ordering.{Ordering}
use Rattle.std.specs.declared.cmp.Ordering.TheVariants.{Less, Equal, Greater}
use Rattle.std.specs.declared.option.Option.TheVariants.{Some}
use Rattle.std.specs.declared.result.Result.{Result}
use Rattle.rmt_paths.specs.Paths.{digits}
use Rattle.rmt_paths.specs.PathOrder.{name_cmp}
use Rattle.rmt_znodes.specs.Znodes.{lock_name}
use Rattle.rmt_znodes.proofs.ZnodeLemmas.{digits-value}

-- ---- order

then_assoc : (r s t : Ordering) → ordering_then r (ordering_then s t) ≡ ordering_then (ordering_then r s) t
then_assoc Less s t = refl
then_assoc Equal s t = refl
then_assoc Greater s t = refl

-- lists of one length are in the order of their prefixes, and then of their rests
cmp-append : (a b x y : List ℕ) → length a ≡ length b → slice_cmp nat_cmp (a ++ x) (b ++ y) ≡ ordering_then (slice_cmp nat_cmp a b) (slice_cmp nat_cmp x y)
cmp-append [] [] x y e = refl
cmp-append [] (d ∷ b) x y e = absurd (omega (arith, e))
cmp-append (c ∷ a) [] x y e = absurd (omega (arith, e))
cmp-append (c ∷ a) (d ∷ b) x y e = ap (ordering_then (nat_cmp c d)) (cmp-append a b x y (omega (arith, e))) ∙ then_assoc (nat_cmp c d) (slice_cmp nat_cmp a b) (slice_cmp nat_cmp x y)

pub length-digits : (w n : ℕ) → length (digits w n) ≡ w
length-digits zero n = refl
length-digits (suc w) n = length-append (digits w (n / 10)) ((48 + n % 10) ∷ []) ∙ (let l = length-digits w (n / 10) in omega (arith, l))

cmp-itself : (xs : List ℕ) → slice_cmp nat_cmp xs xs ≡ Equal
cmp-itself [] = refl
cmp-itself (x ∷ xs) = ap (λ (r : Ordering). ordering_then r (slice_cmp nat_cmp xs xs)) (same x) ∙ cmp-itself xs
  where
    same : (x : ℕ) → nat_cmp x x ≡ Equal
    same x = grind arith

less-number : (a b : ℕ) → a < b → nat_cmp a b ≡ Less
less-number a b l = grind arith

-- the digits of the lower number come first
pub digits-lower : (w a b : ℕ) → a < b → b < 10 ^ w → slice_cmp nat_cmp (digits w a) (digits w b) ≡ Less
digits-lower zero a b l h = absurd (omega (arith, l, h))
digits-lower (suc w) a b l h =
    cmp-append (digits w (a / 10)) (digits w (b / 10)) ((48 + a % 10) ∷ []) ((48 + b % 10) ∷ []) (length-digits w (a / 10) ∙ sym (length-digits w (b / 10)))
    ∙ go (cases (a / 10) (b / 10) (omega (arith, l))) (digits-lower w (a / 10) (b / 10))
  where
    cases : (m n : ℕ) → m ≤ n → (m < n) ⊎ (m ≡ n)
    cases m n h = grind arith

    small : b / 10 < 10 ^ w
    small = let q = pow-succ' 10 w in omega (arith, q, h)

    go : ((a / 10 < b / 10) ⊎ (a / 10 ≡ b / 10)) → (a / 10 < b / 10 → b / 10 < 10 ^ w → slice_cmp nat_cmp (digits w (a / 10)) (digits w (b / 10)) ≡ Less)
        → ordering_then (slice_cmp nat_cmp (digits w (a / 10)) (digits w (b / 10))) (slice_cmp nat_cmp ((48 + a % 10) ∷ []) ((48 + b % 10) ∷ [])) ≡ Less
    go (inl k) f = ap (λ (r : Ordering). ordering_then r (slice_cmp nat_cmp ((48 + a % 10) ∷ []) ((48 + b % 10) ∷ []))) (f k small)
    go (inr e) f =
        ap (λ (r : Ordering). ordering_then r (slice_cmp nat_cmp ((48 + a % 10) ∷ []) ((48 + b % 10) ∷ []))) (ap (λ (m : ℕ). slice_cmp nat_cmp (digits w m) (digits w (b / 10))) e ∙ cmp-itself (digits w (b / 10)))
        ∙ ap (λ (r : Ordering). ordering_then r Equal) (less-number (48 + a % 10) (48 + b % 10) (omega (arith, l, e)))

-- the name comes first
pub Lower : List ℕ → List ℕ → Type 0
Lower a b = name_cmp a b ≡ Less

pub lower-irreflexive : (a : List ℕ) → Lower a a → ⊥
unfolding Lower
lower-irreflexive a h = let q : ◌≡◌ {A = Ordering} Equal Less = sym (cmp-itself a) ∙ h in absurd (cc)

pub lower-trans : (a b c : List ℕ) → Lower a b → Lower b c → Lower a c
unfolding Lower
lower-trans a b c h k = nat_list_cmp_total.trans a b c h k

pub lower-asymmetric : (a b : List ℕ) → Lower a b → Lower b a → ⊥
lower-asymmetric a b h k = lower-irreflexive a (lower-trans a b a h k)

pub lower-test : (a b : List ℕ) → Lower a b → is_lt (name_cmp a b) ≡ true
unfolding Lower
lower-test a b h = ap is_lt h

pub test-lower : (a b : List ℕ) → is_lt (name_cmp a b) ≡ true → Lower a b
unfolding Lower
test-lower a b e = go (name_cmp a b) e
  where
    go : (r : Ordering) → is_lt r ≡ true → r ≡ Less
    go Less e = refl
    go Equal e = absurd (cc)
    go Greater e = absurd (cc)

pub lock-lower : (a b : ℕ) → a < b → b < 2 ^ 32 → Lower (lock_name a) (lock_name b)
unfolding Lower
lock-lower a b l h = digits-lower 10 a b l (omega arith)

-- a lock's name that isn't before another has no lower number
pub lock-from : (a b : ℕ) → b < 2 ^ 32 → (Lower (lock_name a) (lock_name b) → ⊥) → b ≤ a
lock-from a b h f = elim (cases a b) [ inl l ↦ absurd (f (lock-lower a b l h)) | inr l ↦ l ]
  where
    cases : (a b : ℕ) → (a < b) ⊎ (b ≤ a)
    cases a b = grind arith

pub lock-not-lower : (a b : ℕ) → b ≤ a → a < 2 ^ 32 → Lower (lock_name a) (lock_name b) → ⊥
lock-not-lower a b l h k = elim (cases a b l) [ inl m ↦ lower-asymmetric (lock_name a) (lock_name b) k (lock-lower b a m h) | inr e ↦ lower-irreflexive (lock_name a) (subst (λ (n : ℕ). Lower (lock_name a) (lock_name n)) e k) ]
  where
    cases : (a b : ℕ) → b ≤ a → (b < a) ⊎ (b ≡ a)
    cases a b l = grind arith

-- ---- what is read of the last ten bytes

own : IsNumeralModel (AllDigits 10) (digits_value 10)
own = numerals_by_value (AllDigits 10) tells_digits

all-push : (xs : List ℕ) (c : ℕ) → AllDigits 10 xs → digit_value c < 10 → AllDigits 10 (xs ++ c ∷ [])
all-push [] c a h = (h, tt)
all-push (x ∷ xs) c a h = (a.0, all-push xs c a.1 h)

all-digits : (w n : ℕ) → AllDigits 10 (digits w n)
all-digits zero n = tt
all-digits (suc w) n = all-push (digits w (n / 10)) (48 + n % 10) (all-digits w (n / 10)) (let d : digit_value (48 + n % 10) + 48 ≡ 48 + n % 10 = digit_value_digit (48 + n % 10) (omega arith) in omega (arith, d))

pub ten-read : {E : Type 0} (n : ℕ) (bs : List ℕ) (r : Result ℕ E) → n < 2 ^ 32 → bs ≡ digits 10 n → ParsesUnsigned 32 10 bs r → result_ok r ≡ Some n
ten-read n bs r small e h =
    let v : digits_value 10 bs ≡ n = ap (digits_value 10) e ∙ digits-value 10 n (omega arith) in
    let k : length bs ≡ 10 = ap length e ∙ length-digits 10 n in
    let w = parse_gives own 32 bs r h (subst (AllDigits 10) (sym e) (all-digits 10 n)) (omega (arith, k)) (omega (arith, v, small)) in
    ap result_ok w ∙ ap Some v

pub last-ten : (prefix : List ℕ) (n : ℕ) (name : List ℕ) → name ≡ prefix ++ digits 10 n → drop (length name - 10) name ≡ digits 10 n
last-ten prefix n name e =
    ap (λ (s : List ℕ). drop (length s - 10) s) e
    ∙ drop_at prefix (digits 10 n) (length (prefix ++ digits 10 n) - 10) (let l = length-append prefix (digits 10 n) in let k = length-digits 10 n in omega (arith, l, k))

pub last-bytes : (prefix : List ℕ) (n : ℕ) (name : List ℕ) (start : ℕ) → start ≡ length name - 10 → name ≡ prefix ++ digits 10 n → take (length name - start) (drop start name) ≡ digits 10 n
last-bytes prefix n name start s e =
    take_all (length name - start) (drop start name) (let l = length-drop start name in omega (arith, l))
    ∙ ap (λ (k : ℕ). drop k name) s ∙ last-ten prefix n name e

-- ---- texts are ASCII

ascii-digits : (w n : ℕ) → IsAscii (digits w n)
ascii-digits zero n = IsAscii-nil
ascii-digits (suc w) n = IsAscii-append (digits w (n / 10)) ((48 + n % 10) ∷ []) (ascii-digits w (n / 10)) (λ i. at i)
  where
    at : (i : ℕ) → slice_index ((48 + n % 10) ∷ []) i < 128
    at zero = omega arith
    at (suc i) = omega arith

pub utf8-digits : (w n : ℕ) → IsUtf8 (digits w n)
utf8-digits w n = IsUtf8-from_ascii (digits w n) (ascii-digits w n)
