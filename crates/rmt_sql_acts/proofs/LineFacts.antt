-- What every line of a rule has, where no token of it is what a limit refuses.
use Rattle.std.proofs.Common.{◌≡◌, ℕ, zero, suc, ◌≤◌, List, [], ◌∷◌, ◌++◌, length, take, refl, sym, subst, arith, Bool, true, false, cond, Option, Some, None, inl, inr, ◌^◌, ◌&&◌, nat_le, nat_lt}
use Rattle.std.proofs.lemmas.List.{length-append}
use Rattle.std.specs.Prelude.{◌==◌}
use Rattle.std.specs.List.{prefix_len}
use Rattle.std.specs.Char.{is_ascii_digit}
use Rattle.rmt_sql_tokens.specs.declared.symbol_kind.SymbolKind.{SymbolKind}
use Rattle.rmt_sql_tokens.specs.declared.symbol_kind.SymbolKind.TheVariants as symbols
use Rattle.rmt_sql_tokens.specs.declared.context.Context.{Context}
use Rattle.rmt_sql_tokens.specs.declared.context.Context.TheVariants.{Plain, Format, Csv, Over}
use Rattle.rmt_sql_tokens.specs.declared.quoted.Within.TheVariants.{Inside}
use Rattle.rmt_sql_tokens.specs.Tokens.{Token, Word, Number, Data, Semicolon, Bad, is_white, is_blank, begins_word, is_word_byte, begins_comment, is_within, next_is_byte, data_len, after_word, spelling_or, gap, there, Sign, Spelled, Spot, Scanned, value_of, word_token, number_token, text_from, text_token, sign, sign_of, scan_csv, scan_in, scan, with_spot, spots_from}
use Rattle.rmt_sql_tokens.specs.Classes.{Limit, is_of}
use Rattle.rmt_sql_tokens.specs.Exact.{Rule, Then, Gives, Either, Times, Many, always, item}
use Rattle.rmt_sql_acts.specs.Phrases.{further, listed, ended}

-- no token is what a limit refuses
abbrev pub AreWithin : List Spot → Type 0
AreWithin [] = Unit {0}
AreWithin (s ∷ ss) = (is_of Limit s.token ≡ false) × AreWithin ss

-- parts of such tokens
pub parts_within : (xs ys : List Spot) → AreWithin (xs ++ ys) → AreWithin xs × AreWithin ys
parts_within [] ys h = (tt, h)
parts_within (x ∷ xs) ys h = let (a, b) = parts_within xs ys h.1 in ((h.0, a), b)

-- the value of each line of the form has this
pub record Every {A : Type 0} (P : A → Type 0) (L : List Spot → A → Type 0) : Type 0 where
  pub each : (ts : List Spot) (a : A) → AreWithin ts → L ts a → P a

pub every_then : {A B : Type 0} (Q : A → Type 0) (P : B → Type 0) (L : List Spot → A → Type 0) (M : A → List Spot → B → Type 0) → Every Q L → ((a : A) → Q a → Every P (M a)) → Every P (Then L M)
every_then Q P L M first second = record {
  each = λ ts b within h.
      let (one, two) = parts_within h.prefix h.rest (subst AreWithin (sym h.parts) within) in
      (second h.value (first.each h.prefix h.value one h.first)).each h.rest b two h.second;
}

-- whatever the first is
pub every_after : {A B : Type 0} (P : B → Type 0) (L : List Spot → A → Type 0) (M : A → List Spot → B → Type 0) → ((a : A) → Every P (M a)) → Every P (Then L M)
every_after P L M second = every_then (λ a. Unit {0}) P L M (record { each = λ ts a within h. tt }) (λ a q. second a)

pub every_gives : {A : Type 0} (P : A → Type 0) (x : A) → P x → Every P (Gives x)
every_gives P x p = record { each = λ ts a within h. subst P (sym h.1) p }

pub every_either : {A : Type 0} (P : A → Type 0) (L M : List Spot → A → Type 0) → Every P L → Every P M → Every P (Either L M)
every_either {A} P L M first second = record { each = λ ts a within h. has ts a within h }
  where
    has : (ts : List Spot) (a : A) → AreWithin ts → Either L M ts a → P a
    has ts a within (inl h) = first.each ts a within h
    has ts a within (inr h) = second.each ts a within h

times_have : {S : Type 0} (P : S → Type 0) (may : S → Bool) (L : S → List Spot → S → Type 0) → ((m : S) → P m → Every P (L m)) → (n : ℕ) (s : S) → P s → (ts : List Spot) (e : S) → AreWithin ts → Times may L n s ts e → P e
times_have P may L each zero s p ts e within h = subst P (sym h.1) p
times_have P may L each (suc n) s p ts e within h =
    let t = h.1 in
    let (one, two) = parts_within t.prefix t.rest (subst AreWithin (sym t.parts) within) in
    times_have P may L each n t.value ((each s p).each t.prefix t.value one t.first) t.rest e two t.second

pub every_many : {S : Type 0} (P : S → Type 0) (may : S → Bool) (L : S → List Spot → S → Type 0) (s : S) → ((m : S) → P m → Every P (L m)) → P s → Every P (Many may L s)
every_many P may L s each p = record { each = λ ts e within h. times_have P may L each h.0 s p ts e within h.1 }

pub every_ended : {A : Type 0} (P : A → Type 0) (a : A) → P a → Every (λ x. P x.0) (ended a).form
every_ended P a p = every_after (λ x. P x.0) _ _ (λ left. every_gives (λ x. P x.0) (a, left) p)

-- ---- lists between commas

-- there is one at least
abbrev pub IsSome : {A : Type 0} → List A → Type 0
IsSome all = 1 ≤ length all

item_some : {A : Type 0} (R : Rule A) (all : List A) → Every IsSome (item R all).form
item_some R all = every_after IsSome R.form _ (λ a. every_gives IsSome (all ++ a ∷ []) (omega (arith, length-append all (a ∷ []))))

pub listed_some : {A : Type 0} (R : Rule A) → Every IsSome (listed R).form
listed_some R =
    every_then IsSome IsSome (item R []).form _ (item_some R []) (λ first p.
    every_many IsSome always (λ all. (further R all).form) first (λ all q. every_after IsSome _ _ (λ _. item_some R all)) p)

-- ---- the tokens of bytes

-- the token of it is none that a limit refuses
record HasWithin {X : Type 0} (token_in : X → Token) (x : X) : Type 0 where
  is : is_of Limit (token_in x) ≡ false

both_within : {X : Type 0} (token_in : X → Token) (b : Bool) (x y : X) → HasWithin token_in x → HasWithin token_in y → HasWithin token_in (cond b x y)
both_within token_in true x y p q = p
both_within token_in false x y p q = q

-- of two signs
sign_if : (b : Bool) (x y : Sign) → HasWithin (λ s. s.token) x → HasWithin (λ s. s.token) y → HasWithin (λ s. s.token) (cond b x y)
sign_if = both_within (λ (s : Sign). s.token)

-- of two that are scanned
scanned_if : (b : Bool) (x y : Scanned) → HasWithin (λ s. s.token) x → HasWithin (λ s. s.token) y → HasWithin (λ s. s.token) (cond b x y)
scanned_if = both_within (λ (s : Scanned). s.token)

text_within : (o : Option Spelled) → is_of Limit (text_token o) ≡ false
text_within None = refl
text_within (Some text) = refl

word_within : (text : List ℕ) → is_of Limit (word_token text) ≡ false
word_within text = (both_within (λ t. t) (nat_le (length text) 255) (Word text) Bad (record { is = refl }) (record { is = refl })).is

number_within : (digits : List ℕ) → is_of Limit (number_token digits) ≡ false
number_within digits = (both_within (λ t. t) (nat_le (length digits) 39 && nat_lt (value_of digits) (2 ^ 128)) (Number (value_of digits)) Bad (record { is = refl }) (record { is = refl })).is

sign_within : (b : ℕ) (bs : List ℕ) → HasWithin (λ s. s.token) (sign_of b bs)
sign_within b bs =
    let one : (kind : SymbolKind) (more : ℕ) → HasWithin (λ s. s.token) (sign kind more) = λ kind more. record { is = refl } in
    sign_if (b == 40) _ _ (one symbols.Open 0) (sign_if (b == 41) _ _ (one symbols.Close 0) (sign_if (b == 44) _ _ (one symbols.Comma 0)
    (sign_if (b == 61) _ _ (one symbols.Equal 0) (sign_if (b == 64) _ _ (one symbols.At 0) (sign_if (b == 43) _ _ (one symbols.Plus 0)
    (sign_if (b == 45) _ _ (one symbols.Minus 0) (sign_if (b == 42) _ _ (one symbols.Star 0)
    (sign_if (b == 60) _ _ (sign_if (next_is_byte 62 bs) _ _ (one symbols.Differs 1) (sign_if (next_is_byte 61 bs) _ _ (one symbols.AtMost 1) (one symbols.Less 0)))
    (sign_if (b == 62) _ _ (sign_if (next_is_byte 61 bs) _ _ (one symbols.AtLeast 1) (one symbols.Greater 0)) (sign_if (b == 33 && next_is_byte 61 bs) _ _ (one symbols.Differs 1)
    (sign_if (b == 59) (record { token = Semicolon; more = 0 }) (record { token = Bad; more = 0 }) (record { is = refl }) (record { is = refl }))))))))))))

-- white space or a comment
gap_within : (more : ℕ) (context : Context) → HasWithin (λ s. s.token) (gap more context)
gap_within more context = record { is = refl }

there_within : (token : Token) (more : ℕ) (context : Context) → is_of Limit token ≡ false → HasWithin (λ s. s.token) (there token more context)
there_within token more context h = record { is = h }

scanned_within : (context : Context) (b : ℕ) (bs : List ℕ) → HasWithin (λ s. s.token) (scan_in context b bs)
scanned_within context b bs =
    let word = b ∷ take (prefix_len is_word_byte bs) bs in
    scanned_if (is_white b) _ _ (gap_within 0 context) (scanned_if (begins_comment (b ∷ bs)) _ _ (gap_within (prefix_len is_within bs) context)
    (scanned_if (begins_word b) _ _ (there_within (word_token word) (prefix_len is_word_byte bs) (after_word context word) (word_within word))
    (scanned_if (is_ascii_digit b) _ _
    (there_within (number_token (b ∷ take (prefix_len is_ascii_digit bs) bs)) (prefix_len is_ascii_digit bs) Plain (number_within (b ∷ take (prefix_len is_ascii_digit bs) bs)))
    (scanned_if (b == 39) _ _ (there_within (text_token (text_from Inside bs)) (spelling_or (text_from Inside bs)) Plain (text_within (text_from Inside bs)))
    (there_within (sign_of b bs).token (sign_of b bs).more Plain (sign_within b bs).is)))))

data_within : (b : ℕ) (bs : List ℕ) → HasWithin (λ s. s.token) (scan_csv b bs)
data_within b bs =
    scanned_if (is_blank b) _ _ (gap_within 0 Csv)
    (scanned_if (b == 10) _ _ (there_within (Data (take (data_len true bs) bs)) (data_len true bs) Plain refl) (there_within Bad 0 Plain refl))

scan_within : (context : Context) (b : ℕ) (bs : List ℕ) → is_of Limit (scan context b bs).token ≡ false
unfolding scan
scan_within Csv b bs = (data_within b bs).is
scan_within Plain b bs = (scanned_within Plain b bs).is
scan_within Format b bs = (scanned_within Format b bs).is
scan_within Over b bs = (scanned_within Over b bs).is

with_within : (s : Scanned) (left : ℕ) (rest : List Spot) → is_of Limit s.token ≡ false → AreWithin rest → AreWithin (with_spot s left rest)
with_within s left rest one others = go s.is_token
  where
    go : (b : Bool) → AreWithin (cond b (record { token = s.token; left = left } ∷ rest) rest)
    go true = (one, others)
    go false = others

end_within : (n : ℕ) (context : Context) → AreWithin (spots_from n context [])
unfolding spots_from
end_within n Plain = (refl, tt)
end_within n Format = (refl, tt)
end_within n Csv = (refl, (refl, tt))
end_within n Over = tt

pub spots_within : (n : ℕ) (context : Context) (bytes : List ℕ) → AreWithin (spots_from n context bytes)
unfolding spots_from
spots_within n context [] = end_within n context
spots_within zero context (b ∷ bs) =
    with_within (scan context b bs) (suc (length bs)) _ (scan_within context b bs) (spots_within (scan context b bs).more (scan context b bs).context bs)
spots_within (suc n) context (b ∷ bs) = spots_within n context bs
