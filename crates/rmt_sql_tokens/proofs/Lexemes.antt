-- The tokens that the code takes from the start are those of the definition.
use Rattle.std.proofs.Common.{◌≡◌, ◌∙◌, ℕ, suc, ◌+◌, ◌<◌, List, [], ◌∷◌, length, take, drop, refl, Bool, true, false, get_or, arith}
use Rattle.std.specs.Prelude.{◌==◌}
use Rattle.std.specs.List.{prefix_len}
use Rattle.std.specs.Char.{is_ascii_digit}
use Rattle.std.proofs.lemmas.Bool.Decides.{nat_tests}
use Rattle.rmt_sql_tokens.specs.declared.context.Context.{Context}
use Rattle.rmt_sql_tokens.specs.declared.context.Context.TheVariants.{Plain, Csv}
use Rattle.rmt_sql_tokens.specs.declared.quoted.Within.TheVariants.{Inside}
use Rattle.rmt_sql_tokens.specs.Tokens.{Token, Data, Bad, Spot, spot, is_white, is_blank, begins_word, is_word_byte, begins_comment, after_word, word_token, number_token, sign_of, text_from, text_token, spelling_or, data_len, spots}
use Rattle.rmt_sql_tokens.specs.Lexing.{BeginsToken}
use Rattle.rmt_sql_tokens.proofs.Gaps.{NotCsv, spots_step, scan_is, scan_csv_is, token_test, token_tests}

abbrev pub spot_at : List ℕ → Token → Spot
spot_at bytes token = spot token (length bytes)

-- a byte that begins a word may be in one
begins_blocked : (b : ℕ) → begins_word b ≡ true → is_word_byte b ≡ true
begins_blocked b h = grind (arith, nat_tests)

word_tests : (b : ℕ) → begins_word b ≡ true → (is_white b ≡ false) × ((b == 45) ≡ false)
word_tests b h = (grind (arith, nat_tests), grind (arith, nat_tests))

digit_tests : (b : ℕ) → is_ascii_digit b ≡ true → (is_white b ≡ false) × ((b == 45) ≡ false) × (begins_word b ≡ false)
digit_tests b h = (grind (arith, nat_tests), grind (arith, nat_tests), grind (arith, nat_tests))

-- one byte more is taken, where it passes
run_more : (p : ℕ → Bool) (b : ℕ) (bs : List ℕ) → p b ≡ true → prefix_len p (b ∷ bs) ≡ suc (prefix_len p bs)
run_more p b bs h = rw h (omega arith)

pub word_scanned : (context : Context) (bytes : List ℕ) → NotCsv context → 0 < length bytes → begins_word (get_or bytes 0 0) ≡ true
    → spots context bytes ≡ spot_at bytes (word_token (take (prefix_len is_word_byte bytes) bytes)) ∷ spots (after_word context (take (prefix_len is_word_byte bytes) bytes)) (drop (prefix_len is_word_byte bytes) bytes)
word_scanned context [] other some h = absurd (omega arith)
word_scanned context (b ∷ bs) other some h =
    let e = run_more is_word_byte b bs (begins_blocked b h) in
    let (white, dash) = word_tests b h in
    spots_step context b bs ∙ (rw (scan_is context b bs other) (rw e (rw white (rw dash (rw h refl)))))

pub number_scanned : (context : Context) (bytes : List ℕ) → NotCsv context → 0 < length bytes → is_ascii_digit (get_or bytes 0 0) ≡ true
    → spots context bytes ≡ spot_at bytes (number_token (take (prefix_len is_ascii_digit bytes) bytes)) ∷ spots Plain (drop (prefix_len is_ascii_digit bytes) bytes)
number_scanned context [] other some h = absurd (omega arith)
number_scanned context (b ∷ bs) other some h =
    let e = run_more is_ascii_digit b bs h in
    let (white, dash, word) = digit_tests b h in
    spots_step context b bs ∙ (rw (scan_is context b bs other) (rw e (rw white (rw dash (rw word (rw h refl))))))

pub text_scanned : (context : Context) (bytes : List ℕ) → NotCsv context → 0 < length bytes → get_or bytes 0 0 ≡ 39
    → spots context bytes ≡ spot_at bytes (text_token (text_from Inside (drop 1 bytes))) ∷ spots Plain (drop (spelling_or (text_from Inside (drop 1 bytes))) (drop 1 bytes))
text_scanned context [] other some h = absurd (omega arith)
text_scanned context (b ∷ bs) other some h = spots_step context b bs ∙ (rw (scan_is context b bs other) (rw h refl))

pub data_scanned : (bytes : List ℕ) → 0 < length bytes → get_or bytes 0 0 ≡ 10
    → spots Csv bytes ≡ spot_at bytes (Data (take (data_len true (drop 1 bytes)) (drop 1 bytes))) ∷ spots Plain (drop (data_len true (drop 1 bytes)) (drop 1 bytes))
data_scanned [] some h = absurd (omega arith)
data_scanned (b ∷ bs) some h = spots_step Csv b bs ∙ (rw (scan_csv_is b bs) (rw h refl))

blank_is : (b : ℕ) (bs : List ℕ) → BeginsToken Csv (b ∷ bs) → is_blank b ≡ false
blank_is b bs begins = token_test (is_blank b) _ _ refl (rw (scan_csv_is b bs) at begins)

pub csv_scanned : (bytes : List ℕ) → 0 < length bytes → BeginsToken Csv bytes → (get_or bytes 0 0 ≡ 10 → ⊥)
    → spots Csv bytes ≡ spot_at bytes Bad ∷ spots Plain (drop 1 bytes)
csv_scanned [] some begins h = absurd (omega arith)
csv_scanned (b ∷ bs) some begins h =
    let blank = blank_is b bs begins in
    let line : (b == 10) ≡ false = grind (arith, nat_tests) in
    spots_step Csv b bs ∙ (rw (scan_csv_is b bs) (rw blank (rw line refl)))

pub symbol_scanned : (context : Context) (bytes : List ℕ) (n : ℕ) → NotCsv context → 0 < length bytes → BeginsToken context bytes
    → begins_word (get_or bytes 0 0) ≡ false → is_ascii_digit (get_or bytes 0 0) ≡ false → (get_or bytes 0 0 ≡ 39 → ⊥)
    → n ≡ 1 + (sign_of (get_or bytes 0 0) (drop 1 bytes)).more
    → spots context bytes ≡ spot_at bytes (sign_of (get_or bytes 0 0) (drop 1 bytes)).token ∷ spots Plain (drop n bytes)
symbol_scanned context [] n other some begins w d q size = absurd (omega arith)
symbol_scanned context (b ∷ bs) n other some begins w d q size =
    let quote : (b == 39) ≡ false = grind (arith, nat_tests) in
    let more : n ≡ suc (sign_of b bs).more = omega (arith, size) in
    let e = scan_is context b bs other in
    let (white, dash) = token_tests (is_white b) (begins_comment (b ∷ bs)) _ _ _ refl refl (rw e at begins) in
    rw more (spots_step context b bs ∙ (rw e (rw white (rw dash (rw w (rw d (rw quote refl)))))))
