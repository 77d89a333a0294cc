-- Data ends before a line that is exactly `;`: at the start, or after the end of a line.
use Rattle.std.proofs.Common.{◌≡◌, ◌∙◌, ℕ, zero, suc, ◌+◌, ◌-◌, ◌<◌, ◌≤◌, ◌==◌, List, [], ◌∷◌, drop, length, slice_index, Bool, true, false, if◌then◌else◌, refl, ap, subst, arith}
use Rattle.memchr.specs.Find.{is_byte, places, places_from}
use Rattle.rmt_values.specs.Rows.{AllBelow}
use Rattle.rmt_sql_tokens.specs.Tokens.{data_len, ends_data}

-- the end of the data, of these ends of lines the first before which it can be
abbrev pub first_end : List ℕ → List ℕ → ℕ
first_end bytes [] = length bytes
first_end bytes (p ∷ ps) = if ends_data (drop (p + 1) bytes) then p + 1 else first_end bytes ps

at-start : (bs : List ℕ) → data_len true bs ≡ (if ends_data bs then 0 else data_len false bs)
at-start [] = refl
at-start (b ∷ bs) = refl

next-byte : (bs : List ℕ) (i : ℕ) → i < length bs → drop i bs ≡ slice_index bs i ∷ drop (i + 1) bs
next-byte [] i h = absurd (omega (arith, h))
next-byte (b ∷ bs) zero h = refl
next-byte (b ∷ bs) (suc i) h = rw (let k : suc i + 1 ≡ suc (i + 1) = omega arith in k) (next-byte bs i (omega (arith, h)))

none-after : (bs : List ℕ) (i : ℕ) → length bs ≤ i → drop i bs ≡ []
none-after [] zero h = refl
none-after [] (suc i) h = refl
none-after (b ∷ bs) zero h = absurd (omega (arith, h))
none-after (b ∷ bs) (suc i) h = none-after bs i (omega (arith, h))

from-place : (bytes : List ℕ) (i n : ℕ) → i + n ≡ length bytes → i + data_len false (drop i bytes) ≡ first_end bytes (places_from (is_byte 10) bytes i n)
unfolding places_from
from-place bytes i zero e = rw (none-after bytes i (omega (arith, e))) (omega (arith, e))
from-place bytes i (suc n) e =
    rw (next-byte bytes i (omega (arith, e))) (go (slice_index bytes i == 10) (from-place bytes (i + 1) n (omega (arith, e))))
  where
    go : (b : Bool) → (i + 1) + data_len false (drop (i + 1) bytes) ≡ first_end bytes (places_from (is_byte 10) bytes (i + 1) n)
        → i + suc (data_len b (drop (i + 1) bytes)) ≡ first_end bytes (if b then i ∷ places_from (is_byte 10) bytes (i + 1) n else places_from (is_byte 10) bytes (i + 1) n)
    go false later = omega (arith, later)
    go true later = rw (at-start (drop (i + 1) bytes)) (ended (ends_data (drop (i + 1) bytes)))
      where
        ended : (t : Bool) → i + suc (if t then 0 else data_len false (drop (i + 1) bytes)) ≡ (if t then i + 1 else first_end bytes (places_from (is_byte 10) bytes (i + 1) n))
        ended true = omega arith
        ended false = omega (arith, later)

pub data-ends : (bytes : List ℕ) → ends_data bytes ≡ false → data_len true bytes ≡ first_end bytes (places (is_byte 10) bytes)
data-ends bytes e =
    let all : length bytes - 0 ≡ length bytes = omega arith in
    let whole : 0 + data_len false bytes ≡ first_end bytes (places_from (is_byte 10) bytes 0 (length bytes)) = from-place bytes 0 (length bytes) (omega arith) in
    let same : data_len false bytes ≡ 0 + data_len false bytes = omega arith in
    at-start bytes ∙ (rw e (rw all (same ∙ whole)))

below-from : (bytes : List ℕ) (i n : ℕ) → i + n ≤ length bytes → AllBelow (length bytes) (places_from (is_byte 10) bytes i n)
unfolding places_from
below-from bytes i zero h = tt
below-from bytes i (suc n) h = go (slice_index bytes i == 10) (below-from bytes (i + 1) n (omega (arith, h)))
  where
    go : (b : Bool) → AllBelow (length bytes) (places_from (is_byte 10) bytes (i + 1) n)
        → AllBelow (length bytes) (if b then i ∷ places_from (is_byte 10) bytes (i + 1) n else places_from (is_byte 10) bytes (i + 1) n)
    go true later = (omega (arith, h), later)
    go false later = later

pub ends-below : (bytes : List ℕ) → AllBelow (length bytes) (places (is_byte 10) bytes)
ends-below bytes = below-from bytes 0 (length bytes - 0) (omega arith)

-- the first of some ends is the one, or else one of the others
pub ends-next : (bytes : List ℕ) (all : List ℕ) (p : ℕ) (ps : List ℕ) → all ≡ p ∷ ps → ends_data (drop (p + 1) bytes) ≡ false → AllBelow (length bytes) all
    → (first_end bytes all ≡ first_end bytes ps) × AllBelow (length bytes) ps
ends-next bytes all p ps e h b = let t = subst (AllBelow (length bytes)) e b in (ap (first_end bytes) e ∙ rw h refl, t.1)
