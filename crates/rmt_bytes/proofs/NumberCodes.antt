-- Numbers and bytes.
use Rattle.std.proofs.Common.{◌≡◌, ℕ, zero, suc, ◌^◌, ◌<◌, ◌≤◌, Bool, true, false, cond, ltb, List, [], ◌∷◌, ◌++◌, length, get_or, take, drop, Some, None, refl, sym, ap, subst, ◌∙◌, arith}
use Rattle.std.specs.Int.{Width, w16, w32, w64, byte_len, from_be_bytes, to_be_bytes}
use Rattle.std.proofs.lemmas.Bool.{ltb-false, le-ltb}
use Rattle.std.proofs.lemmas.List.{take_at, drop_at, take-append-drop, length-append, length-take}
use Rattle.std.proofs.lemmas.Nat.{be_bytes_2, be_bytes_4, be_bytes_8, from_be_bytes-to_be_bytes_2, from_be_bytes-to_be_bytes_4, from_be_bytes-to_be_bytes_8}
use Rattle.rmt_bytes.specs.Encoding.{AreBytes}
use Rattle.rmt_bytes.specs.Decoding.{mapped, decode_bytes, decode_number}
use Rattle.rmt_bytes.proofs.Codes.{Takes, Codes}
use Rattle.rmt_bytes.proofs.CodeLemmas.{mapped_some}

-- ---- bytes

pub bytes_take : (n : ℕ) (bytes : List ℕ) → AreBytes bytes → AreBytes (take n bytes)
bytes_take zero bytes are = tt
bytes_take (suc n) [] are = tt
bytes_take (suc n) (b ∷ bytes) are = (are.0, bytes_take n bytes are.1)

pub bytes_drop : (n : ℕ) (bytes : List ℕ) → AreBytes bytes → AreBytes (drop n bytes)
bytes_drop zero bytes are = are
bytes_drop (suc n) [] are = tt
bytes_drop (suc n) (b ∷ bytes) are = bytes_drop n bytes are.1

pub byte_below : (bytes : List ℕ) → AreBytes bytes → (i : ℕ) → get_or bytes i 0 < 256
byte_below [] are i = omega arith
byte_below (b ∷ bytes) are zero = are.0
byte_below (b ∷ bytes) are (suc i) = byte_below bytes are.1 i

none_or : {A : Type 0} (b : Bool) (x y : A) → cond b None (Some x) ≡ Some y → (b ≡ false) × (x ≡ y)
none_or true x y e = absurd cc
none_or false x y e = (refl, cc)

-- so many bytes stand for themselves
pub bytes_code : (n : ℕ) → Codes (λ bytes. bytes) (λ bytes. (length bytes ≡ n) × AreBytes bytes) (decode_bytes n)
bytes_code n = record {
  again = λ bytes rest fits.
      let long : ltb (length (bytes ++ rest)) n ≡ false = le-ltb _ _ (omega (arith, length-append bytes rest, fits.0)) in
      rw (long, take_at bytes rest n fits.0, drop_at bytes rest n fits.0) refl;
  takes = λ all bytes rest are e.
      let g = none_or (ltb (length all) n) (take n all, drop n all) (bytes, rest) e in
      let long : n ≤ length all = ltb-false _ _ g.0 in
      let whole : Takes (λ bytes. bytes) (λ bytes. (length bytes ≡ n) × AreBytes bytes) all (take n all) (drop n all) = record {
        parts = sym (take-append-drop n all);
        fits = (omega (arith, length-take n all), bytes_take n all are);
        rest_bytes = bytes_drop n all are;
      } in
      subst (λ (y : List ℕ × List ℕ). Takes (λ bytes. bytes) (λ bytes. (length bytes ≡ n) × AreBytes bytes) all y.0 y.1) g.1 whole;
}

-- ---- numbers

record IsWide (w : Width) (limit : ℕ) : Type 0 where
  pub len : (n : ℕ) → length (to_be_bytes w n) ≡ byte_len w
  pub are : (n : ℕ) → AreBytes (to_be_bytes w n)
  pub back : (bytes : List ℕ) → length bytes ≡ byte_len w → ((i : ℕ) → get_or bytes i 0 < 256) → to_be_bytes w (from_be_bytes w bytes) ≡ bytes
  pub again : (n : ℕ) → n < limit → from_be_bytes w (to_be_bytes w n) ≡ n
  pub below : (bytes : List ℕ) → ((i : ℕ) → get_or bytes i 0 < 256) → from_be_bytes w bytes < limit

number_code : (w : Width) (limit : ℕ) → IsWide w limit → Codes (to_be_bytes w) (λ n. n < limit) (decode_number w)
number_code w limit wide = record {
  again = λ n rest lt.
      ap (mapped (from_be_bytes w)) ((bytes_code (byte_len w)).again (to_be_bytes w n) rest (wide.len n, wide.are n))
      ∙ ap (λ (k : ℕ). Some (k, rest)) (wide.again n lt);
  takes = λ all n rest are e.
      let m = mapped_some (from_be_bytes w) (decode_bytes (byte_len w) all) n rest e in
      let t = (bytes_code (byte_len w)).takes all m.0 rest are m.2 in
      let each = byte_below m.0 t.fits.1 in
      subst (λ k. Takes (to_be_bytes w) (λ n. n < limit) all k rest) (sym m.1) (record {
        parts = t.parts ∙ ap (λ (l : List ℕ). l ++ rest) (sym (wide.back m.0 t.fits.0 each));
        fits = wide.below m.0 each;
        rest_bytes = t.rest_bytes;
      });
}

pub number16 : Codes (to_be_bytes w16) (λ n. n < 2 ^ 16) (decode_number w16)
number16 = number_code w16 (2 ^ 16) (record {
  len = λ n. refl;
  are = λ n. (omega arith, (omega arith, tt));
  back = λ bytes len each. be_bytes_2 bytes _ len each refl;
  again = λ n lt. from_be_bytes-to_be_bytes_2 n lt;
  below = λ bytes each. omega (arith, each 0, each 1);
})

pub number32 : Codes (to_be_bytes w32) (λ n. n < 2 ^ 32) (decode_number w32)
number32 = number_code w32 (2 ^ 32) (record {
  len = λ n. refl;
  are = λ n. (omega arith, (omega arith, (omega arith, (omega arith, tt))));
  back = λ bytes len each. be_bytes_4 bytes _ len each refl;
  again = λ n lt. from_be_bytes-to_be_bytes_4 n lt;
  below = λ bytes each. omega (arith, each 0, each 1, each 2, each 3);
})

pub number64 : Codes (to_be_bytes w64) (λ n. n < 2 ^ 64) (decode_number w64)
number64 = number_code w64 (2 ^ 64) (record {
  len = λ n. refl;
  are = λ n. (omega arith, (omega arith, (omega arith, (omega arith, (omega arith, (omega arith, (omega arith, (omega arith, tt))))))));
  back = λ bytes len each. be_bytes_8 bytes _ len each refl;
  again = λ n lt. from_be_bytes-to_be_bytes_8 n lt;
  below = λ bytes each. omega (arith, each 0, each 1, each 2, each 3, each 4, each 5, each 6, each 7);
})
