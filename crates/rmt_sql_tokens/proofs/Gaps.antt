-- White space and comments have no tokens.
use Rattle.std.proofs.Common.{◌≡◌, ◌∙◌, ℕ, zero, suc, ◌+◌, ◌<◌, List, [], ◌∷◌, length, take, drop, refl, ap, sym, Bool, true, false, cond, arith}
use Rattle.std.specs.Prelude.{◌==◌}
use Rattle.std.specs.List.{prefix_len}
use Rattle.std.specs.Char.{is_ascii_digit}
use Rattle.std.proofs.lemmas.Bool.Decides.{nat_tests}
use Rattle.rmt_sql_tokens.specs.declared.context.Context.{Context}
use Rattle.rmt_sql_tokens.specs.declared.context.Context.TheVariants.{Plain, Format, Csv, Over}
use Rattle.rmt_sql_tokens.specs.declared.quoted.Within.TheVariants.{Inside}
use Rattle.rmt_sql_tokens.specs.Tokens.{spot, Semicolon, Data, Scanned, gap, there, is_white, is_blank, is_within, begins_comment, begins_word, is_word_byte, word_token, number_token, after_word, text_token, text_from, spelling_or, sign_of, scan, scan_in, scan_csv, with_spot, spots_from, spots}
use Rattle.rmt_sql_tokens.specs.Lexing.{BeginsToken}

pub spots_drop : (n : ℕ) (context : Context) (bytes : List ℕ) → spots_from n context bytes ≡ spots context (drop n bytes)
unfolding spots_from
spots_drop zero context [] = refl
spots_drop (suc n) context [] = refl
spots_drop zero context (b ∷ bs) = refl
spots_drop (suc n) context (b ∷ bs) = spots_drop n context bs

pub spots_step : (context : Context) (b : ℕ) (bs : List ℕ) → spots context (b ∷ bs) ≡ with_spot (scan context b bs) (suc (length bs)) (spots (scan context b bs).context (drop (scan context b bs).more bs))
unfolding spots_from
spots_step context b bs = ap (with_spot (scan context b bs) (suc (length bs))) (spots_drop (scan context b bs).more (scan context b bs).context bs)

-- after no FORMAT CSV
abbrev pub NotCsv : Context → Type 0
NotCsv context = context ≡ Csv → ⊥

pub scan_is : (context : Context) (b : ℕ) (bs : List ℕ) → NotCsv context → scan context b bs ≡ scan_in context b bs
unfolding scan
scan_is Plain b bs other = refl
scan_is Format b bs other = refl
scan_is Over b bs other = refl
scan_is Csv b bs other = absurd (other refl)

pub scan_csv_is : (b : ℕ) (bs : List ℕ) → scan Csv b bs ≡ scan_csv b bs
unfolding scan
scan_csv_is b bs = refl

white_step : (context : Context) (b : ℕ) (bs : List ℕ) → NotCsv context → is_white b ≡ true → spots context (b ∷ bs) ≡ spots context bs
white_step context b bs other h = spots_step context b bs ∙ (rw (scan_is context b bs other) (rw h refl))

blank_step : (b : ℕ) (bs : List ℕ) → is_blank b ≡ true → spots Csv (b ∷ bs) ≡ spots Csv bs
blank_step b bs h = spots_step Csv b bs ∙ (rw (scan_csv_is b bs) (rw h refl))

drop_one : (n b : ℕ) (bs : List ℕ) → drop (1 + n) (b ∷ bs) ≡ drop n bs
drop_one n b bs = (let e : 1 + n ≡ suc n = omega arith in ap (λ k. drop k (b ∷ bs)) e)

-- a run of bytes that have no tokens
pub spots_run : (context : Context) (p : ℕ → Bool) → ((b : ℕ) (bs : List ℕ) → p b ≡ true → spots context (b ∷ bs) ≡ spots context bs) → (bytes : List ℕ) → spots context (drop (prefix_len p bytes) bytes) ≡ spots context bytes
spots_run context p step [] = refl
spots_run context p step (b ∷ bs) = go (p b) refl (spots_run context p step bs)
  where
    go : (w : Bool) → p b ≡ w → spots context (drop (prefix_len p bs) bs) ≡ spots context bs → spots context (drop (cond w (1 + prefix_len p bs) 0) (b ∷ bs)) ≡ spots context (b ∷ bs)
    go true h rec = ap (spots context) (drop_one (prefix_len p bs) b bs) ∙ rec ∙ sym (step b bs h)
    go false h rec = refl

pub spots_white : (context : Context) (bytes : List ℕ) → NotCsv context → spots context (drop (prefix_len is_white bytes) bytes) ≡ spots context bytes
spots_white context bytes other = spots_run context is_white (λ b bs h. white_step context b bs other h) bytes

pub spots_blank : (bytes : List ℕ) → spots Csv (drop (prefix_len is_blank bytes) bytes) ≡ spots Csv bytes
spots_blank bytes = spots_run Csv is_blank blank_step bytes

comment_tests : (b : ℕ) (bs : List ℕ) → begins_comment (b ∷ bs) ≡ true → (is_white b ≡ false) × (is_within b ≡ true)
comment_tests b bs h =
    let dash : b ≡ 45 = grind (arith, nat_tests) in
    (rw dash refl, rw dash refl)

comment_step : (context : Context) (b : ℕ) (bs : List ℕ) → NotCsv context → begins_comment (b ∷ bs) ≡ true → spots context (b ∷ bs) ≡ spots context (drop (prefix_len is_within bs) bs)
comment_step context b bs other h =
    let (white, within) = comment_tests b bs h in
    spots_step context b bs ∙ (rw (scan_is context b bs other) (rw white (rw h refl)))

pub spots_comment : (context : Context) (bytes : List ℕ) → NotCsv context → begins_comment bytes ≡ true → spots context (drop (prefix_len is_within bytes) bytes) ≡ spots context bytes
spots_comment context [] other h = absurd cc
spots_comment context (b ∷ bs) other h =
    let (white, within) = comment_tests b bs h in
    rw within (ap (spots context) (drop_one (prefix_len is_within bs) b bs) ∙ sym (comment_step context b bs other h))

pub some_comment : (bytes : List ℕ) → begins_comment bytes ≡ true → 0 < prefix_len is_within bytes
some_comment [] h = absurd cc
some_comment (b ∷ bs) h = (let (white, within) = comment_tests b bs h in rw within (omega arith))

-- ---- where a token begins

none_of : (p : ℕ → Bool) (b : ℕ) (bs : List ℕ) → prefix_len p (b ∷ bs) ≡ 0 → p b ≡ false
none_of p b bs h = go (p b) refl h
  where
    go : (w : Bool) → p b ≡ w → cond w (1 + prefix_len p bs) 0 ≡ 0 → p b ≡ false
    go true e h = absurd (omega arith)
    go false e h = e

either_token : (w : Bool) (x y : Scanned) → x.is_token ≡ true → y.is_token ≡ true → (cond w x y).is_token ≡ true
either_token true x y hx hy = hx
either_token false x y hx hy = hy

csv_begins : (b : ℕ) (bs : List ℕ) → is_blank b ≡ false → BeginsToken Csv (b ∷ bs)
csv_begins b bs h = rw (scan_csv_is b bs) (rw h (either_token (b == 10) _ _ refl refl))

pub blank_none : (bytes : List ℕ) → prefix_len is_blank bytes ≡ 0 → BeginsToken Csv bytes
blank_none [] h = tt
blank_none (b ∷ bs) h = csv_begins b bs (none_of is_blank b bs h)

chain : (w c k d t : Bool) (u v x y z s : Scanned) → w ≡ false → c ≡ false → x.is_token ≡ true → y.is_token ≡ true → z.is_token ≡ true → s.is_token ≡ true → (cond w u (cond c v (cond k x (cond d y (cond t z s))))).is_token ≡ true
chain true c k d t u v x y z s white comment hx hy hz hs = absurd cc
chain false true k d t u v x y z s white comment hx hy hz hs = absurd cc
chain false false true d t u v x y z s white comment hx hy hz hs = hx
chain false false false true t u v x y z s white comment hx hy hz hs = hy
chain false false false false true u v x y z s white comment hx hy hz hs = hz
chain false false false false false u v x y z s white comment hx hy hz hs = hs

pub white_none : (context : Context) (bytes : List ℕ) → NotCsv context → prefix_len is_white bytes ≡ 0 → begins_comment bytes ≡ false → BeginsToken context bytes
white_none context [] other h none = tt
white_none context (b ∷ bs) other h none =
    rw (scan_is context b bs other)
    (chain (is_white b) (begins_comment (b ∷ bs)) (begins_word b) (is_ascii_digit b) (b == 39) (gap 0 context) (gap (prefix_len is_within bs) context)
    (there (word_token (b ∷ take (prefix_len is_word_byte bs) bs)) (prefix_len is_word_byte bs) (after_word context (b ∷ take (prefix_len is_word_byte bs) bs)))
    (there (number_token (b ∷ take (prefix_len is_ascii_digit bs) bs)) (prefix_len is_ascii_digit bs) Plain)
    (there (text_token (text_from Inside bs)) (spelling_or (text_from Inside bs)) Plain)
    (there (sign_of b bs).token (sign_of b bs).more Plain) (none_of is_white b bs h) none refl refl refl refl)

-- where a token begins, the bytes before it were passed over
pub token_tests : (w d : Bool) (f g h : Scanned) → f.is_token ≡ false → g.is_token ≡ false → (cond w f (cond d g h)).is_token ≡ true → (w ≡ false) × (d ≡ false)
token_tests true d f g h hf hg is = absurd cc
token_tests false true f g h hf hg is = absurd cc
token_tests false false f g h hf hg is = (refl, refl)

pub token_test : (w : Bool) (f h : Scanned) → f.is_token ≡ false → (cond w f h).is_token ≡ true → w ≡ false
token_test true f h hf is = absurd cc
token_test false f h hf is = refl

-- ---- the end

pub nothing : (xs : List ℕ) → length xs ≡ 0 → xs ≡ []
nothing [] h = refl
nothing (x ∷ xs) h = absurd (omega arith)

pub end_csv : spots Csv [] ≡ spot (Data []) 0 ∷ spots Plain []
unfolding spots_from
end_csv = refl

pub end_over : spots Over [] ≡ []
unfolding spots_from
end_over = refl

pub end_other : (context : Context) → NotCsv context → (context ≡ Over → ⊥) → spots context [] ≡ spot Semicolon 0 ∷ spots Over []
unfolding spots_from
end_other Plain other more = refl
end_other Format other more = refl
end_other Csv other more = absurd (other refl)
end_other Over other more = absurd (more refl)
