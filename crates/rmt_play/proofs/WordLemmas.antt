-- What words that have a form are, and how clap reads them.
use Rattle.std.proofs.Common.{◌≡◌, ◌≢◌, ◌^◌, get_or, ◌∙◌, ◌<◌, ◌≤◌, ◌&&◌, ℕ, zero, suc, Bool, List, [], ◌∷◌, ◌++◌, length, map, take, drop, refl, sym, ap, ap₂, subst, true, false, nat_lt, cond, codes, Option, Some, None, option_map, arith, nat_le}
use Rattle.std.proofs.lemmas.Bool.Decides.{nat_tests}
use Rattle.std.proofs.lemmas.Slice.Eq.{bytes_eq-Decides}
use Rattle.std.specs.Prelude.{is_some, nat_eq}
use Rattle.std.specs.List.{starts_with}
use Rattle.std.specs.Char.{is_ascii_digit}
use Rattle.std.specs.Str.{all_ascii_digits, bytes_eq}
use Rattle.std.specs.Str.Parse.{ParsesUnsigned, digits_value}
use Rattle.std.specs.Result.{OkIff}
use Rattle.std.specs.declared.result.Result.{Result}
use Rattle.std.specs.declared.result.Result.TheVariants.{Ok, Err}
use Rattle.std.proofs.lemmas.Str.Parse.{IsNumeralModel, numerals_by_value, parse_gives, parse_plain, tells_all_ascii_digits}
use Rattle.clap.specs.Lexer.{strip_byte}
use Rattle.clap.specs.Walk.{Text}
use Rattle.clap.specs.Matches.{subcommand_name_of}
use Rattle.clap.specs.declared.parser.matches.ArgMatches.{ArgMatches}
use Rattle.clap.specs.Simple.{subcommand_of, subcommand_rows_of}
use Rattle.clap.specs.Takes.{takes}
use Rattle.clap.proofs.OnLiterals.{clap_on_literals}
use Rattle.rmt_play.specs.declared.form.Form.{Form}
use Rattle.rmt_play.specs.Forms.{among, count_after, count_in, form_in, is_joined, is_name, is_number, number_in, play_in, plays_with, storm_in, storm_of, storms_with}
use Rattle.rmt_play.specs.CommandWords.{name_asked, program}

-- ---- numbers

-- both tests hold
both-true : (a b : Bool) → (a && b) ≡ true → (a ≡ true) × (b ≡ true)
both-true true true e = (refl, refl)
both-true true false e = absurd (cc)
both-true false b e = absurd (cc)

-- what tests say of a number
number-in-range : (least most : ℕ) (word : Text) (n : ℕ) → n ≡ digits_value 10 word → all_ascii_digits word ≡ true → 0 < length word → length word ≤ 10 → least ≤ n → n ≤ most → Some n ≡ number_in least most word
number-in-range least most word n e d some short low high =
    let a : nat_lt 0 (length word) ≡ true = grind (arith, nat_tests, some) in
    let b : nat_le (length word) 10 ≡ true = grind (arith, nat_tests, short) in
    let l : nat_le least (digits_value 10 word) ≡ true = grind (arith, nat_tests, e, low) in
    let h : nat_le (digits_value 10 word) most ≡ true = grind (arith, nat_tests, e, high) in
    let t : is_number word ≡ true = ap₂ (λ (x y : Bool). x && y) a (ap₂ (λ (x y : Bool). x && y) b d) in
    let r : (nat_le least (digits_value 10 word) && nat_le (digits_value 10 word) most) ≡ true = ap₂ (λ (x y : Bool). x && y) l h in
    ap Some e ∙ sym (ap (λ (x : Bool). cond x (Some (digits_value 10 word)) None) (ap₂ (λ (x y : Bool). x && y) t r))

-- a word that is a number up to a most one
record IsNumberTo (most : ℕ) (word : Text) : Type 0 where
  some : 0 < length word
  digits : all_ascii_digits word ≡ true
  high : digits_value 10 word ≤ most

-- the tests of such a number hold
number-tests : (least most : ℕ) (word : Text) → (is_number word && (nat_le least (digits_value 10 word) && nat_le (digits_value 10 word) most)) ≡ true → IsNumberTo most word
number-tests least most word e =
    let (t, r) = both-true (is_number word) _ e in
    let (a, bd) = both-true (nat_lt 0 (length word)) _ t in
    let d = (both-true (nat_le (length word) 10) _ bd).1 in
    let h = (both-true (nat_le least (digits_value 10 word)) (nat_le (digits_value 10 word) most) r).1 in
    record { some = grind (arith, nat_tests, a); digits = d; high = grind (arith, nat_tests, h) }

-- a word that is no such number
none-numbered : (least most : ℕ) (word : Text) → (IsNumberTo most word → ⊥) → None ≡ number_in least most word
none-numbered least most word f = go (is_number word && (nat_le least (digits_value 10 word) && nat_le (digits_value 10 word) most)) refl
  where
    go : (b : Bool) → (is_number word && (nat_le least (digits_value 10 word) && nat_le (digits_value 10 word) most)) ≡ b → None ≡ cond b (Some (digits_value 10 word)) None
    go false t = refl
    go true t = absurd (f (number-tests least most word t))

-- ---- words that have a form

-- the test holds and the one thing is there, or the other thing is
by-test : (b : Bool) {P : Type 0} (x y : Option Form) → (b ≡ true → is_some x ≡ true → P) → (is_some y ≡ true → P) → is_some (cond b x y) ≡ true → P
by-test true x y f g e = f refl e
by-test false x y f g e = g e

-- the test holds, and the thing is there
one : (b : Bool) {A : Type 0} (o : Option A) → is_some (cond b o None) ≡ true → (b ≡ true) × (is_some o ≡ true)
one true o e = (refl, e)
one false o e = absurd (cc)

-- a number of workers, and what is asked for with it
some-among : (o : Option ℕ) (asks : Option ℕ → Option Form) → is_some (among o asks) ≡ true → (is_some o ≡ true) × (is_some (asks o) ≡ true)
some-among None asks e = absurd (cc)
some-among (Some n) asks e = (refl, e)

-- a word that is no option
record IsPlain (word : Text) : Type 0 where
  hyphen : strip_byte 45 word ≡ None
  end : bytes_eq word (45 ∷ 45 ∷ []) ≡ false

-- a number begins with a digit
plain-number : (least most : ℕ) (word : Text) → is_some (number_in least most word) ≡ true → IsPlain word
plain-number least most [] e = absurd (cc)
plain-number least most (digit ∷ more) e =
    let t = (both-true (is_number (digit ∷ more)) _ (one _ (Some (digits_value 10 (digit ∷ more))) e).0).0 in
    let digits : is_ascii_digit digit && all_ascii_digits more ≡ true = (both-true _ (all_ascii_digits (digit ∷ more)) (both-true (nat_lt 0 (length (digit ∷ more))) _ t).1).1 in
    let from = (both-true (nat_le 48 digit) (nat_le digit 57) (both-true (is_ascii_digit digit) (all_ascii_digits more) digits).0).0 in
    let other : nat_eq digit 45 ≡ false = grind (arith, nat_tests, from) in
    record {
      hyphen = ap (λ (b : Bool). cond b (Some more) None) other;
      end = ap (λ (b : Bool). b && bytes_eq more (45 ∷ [])) other;
    }

-- the two numbers of a workload
plain-numbers : (seed turns : Text) (workers : Option ℕ) → is_some (storm_of seed turns workers) ≡ true → IsPlain seed × IsPlain turns
plain-numbers seed turns workers e =
    let s = go (number_in 0 2147483647 seed) (number_in 1 20000 turns) e in
    (plain-number 0 2147483647 seed s.0, plain-number 1 20000 turns s.1)
  where
    go : (o p : Option ℕ) → is_some (storms_with o p workers) ≡ true → (is_some o ≡ true) × (is_some p ≡ true)
    go None p e = absurd (cc)
    go (Some n) None e = absurd (cc)
    go (Some n) (Some m) e = (refl, refl)

-- what holds of this word holds of an equal one
when-word : (P : Text → Type 0) (word this : Text) → bytes_eq word this ≡ true → P this → P word
when-word P word this e p = subst P (sym ((bytes_eq-Decides word this).0 e)) p

-- a list is its first so many, and the rest
take-drop : (n : ℕ) (xs : List ℕ) → xs ≡ take n xs ++ drop n xs
take-drop zero xs = refl
take-drop (suc n) [] = refl
take-drop (suc n) (x ∷ xs) = ap (λ (l : List ℕ). x ∷ l) (take-drop n xs)

-- the option's name and what comes after it
abbrev joined : Text → Text
joined count = codes "--workers=" ++ count

-- a word that begins with the option's name
when-joined : (P : Text → Type 0) (word : Text) → is_joined word ≡ true → ((count : Text) → P (joined count)) → P word
when-joined P word e p = subst P (sym (take-drop 10 word ∙ ap (λ (l : Text). l ++ drop 10 word) ((bytes_eq-Decides (take 10 word) (codes "--workers=")).0 e))) (p (drop 10 word))

-- fewer words than two are no workload, and neither are more than four
pub few-words : {A : Type 0} (f : A → Text) (xs : List A) → length xs < 2 → None ≡ storm_in (map f xs)
few-words f [] l = refl
few-words f (a ∷ []) l = refl
few-words f (a ∷ b ∷ xs) l = absurd (omega (arith, l))

pub many-words : {A : Type 0} (f : A → Text) (xs : List A) → 5 ≤ length xs → None ≡ storm_in (map f xs)
many-words f [] l = absurd (omega (arith, l))
many-words f (a ∷ []) l = absurd (omega (arith, l))
many-words f (a ∷ b ∷ []) l = absurd (omega (arith, l))
many-words f (a ∷ b ∷ c ∷ []) l = absurd (omega (arith, l))
many-words f (a ∷ b ∷ c ∷ d ∷ []) l = absurd (omega (arith, l))
many-words f (a ∷ b ∷ c ∷ d ∷ e ∷ xs) l = refl

-- ---- what clap makes of them

-- clap takes the words, and finds the subcommand
abbrev pub IsTaken : List Text → Type 0
IsTaken words = (takes program words ≡ true) × (option_map (λ p. p.0) (subcommand_of program words) ≡ name_asked words)

-- a play: alone, with `--workers=K` and with `--workers K`
play-alone : IsTaken (codes "play" ∷ [])
unfolding clap_on_literals
play-alone = (refl, refl)

play-joined : (k : Text) → IsTaken (codes "play" ∷ joined k ∷ [])
unfolding clap_on_literals
play-joined k = (refl, refl)

play-apart : (k : Text) → IsPlain k → IsTaken (codes "play" ∷ codes "--workers" ∷ k ∷ [])
unfolding clap_on_literals
play-apart k c = (rw (c.hyphen, c.hyphen, c.end) refl, refl)

-- a workload without a number of workers
storm-alone : (v u : Text) → IsPlain v → IsPlain u → IsTaken (codes "storm" ∷ v ∷ u ∷ [])
unfolding clap_on_literals
storm-alone v u a b = (rw (a.hyphen, a.hyphen, a.end, b.hyphen, b.hyphen, b.end) refl, refl)

-- `--workers=K` before the numbers, between them and after them
storm-joined-first : (k v u : Text) → IsPlain v → IsPlain u → IsTaken (codes "storm" ∷ joined k ∷ v ∷ u ∷ [])
unfolding clap_on_literals
storm-joined-first k v u a b = (rw (a.hyphen, a.hyphen, a.end, b.hyphen, b.hyphen, b.end) refl, refl)

storm-joined-next : (k v u : Text) → IsPlain v → IsPlain u → IsTaken (codes "storm" ∷ v ∷ joined k ∷ u ∷ [])
unfolding clap_on_literals
storm-joined-next k v u a b = (rw (a.hyphen, a.hyphen, a.end, b.hyphen, b.hyphen, b.end) refl, refl)

storm-joined-last : (k v u : Text) → IsPlain v → IsPlain u → IsTaken (codes "storm" ∷ v ∷ u ∷ joined k ∷ [])
unfolding clap_on_literals
storm-joined-last k v u a b = (rw (a.hyphen, a.hyphen, a.end, b.hyphen, b.hyphen, b.end) refl, refl)

-- `--workers K` before the numbers, between them and after them
storm-apart-first : (k v u : Text) → IsPlain k → IsPlain v → IsPlain u → IsTaken (codes "storm" ∷ codes "--workers" ∷ k ∷ v ∷ u ∷ [])
unfolding clap_on_literals
storm-apart-first k v u c a b = (rw (c.hyphen, c.hyphen, c.end, a.hyphen, a.hyphen, a.end, b.hyphen, b.hyphen, b.end) refl, refl)

storm-apart-next : (k v u : Text) → IsPlain k → IsPlain v → IsPlain u → IsTaken (codes "storm" ∷ v ∷ codes "--workers" ∷ k ∷ u ∷ [])
unfolding clap_on_literals
storm-apart-next k v u c a b = (rw (a.hyphen, a.hyphen, a.end, c.hyphen, c.hyphen, c.end, b.hyphen, b.hyphen, b.end) refl, refl)

storm-apart-last : (k v u : Text) → IsPlain k → IsPlain v → IsPlain u → IsTaken (codes "storm" ∷ v ∷ u ∷ codes "--workers" ∷ k ∷ [])
unfolding clap_on_literals
storm-apart-last k v u c a b = (rw (a.hyphen, a.hyphen, a.end, b.hyphen, b.hyphen, b.end, c.hyphen, c.hyphen, c.end) refl, refl)

-- the words of a play
play-taken : (words : List Text) → is_some (play_in words) ≡ true → IsTaken (codes "play" ∷ words)
play-taken [] e = play-alone
play-taken (word ∷ []) e =
    let named = (one (is_joined word) (count_in (drop 10 word)) (some-among (count_after word) plays_with e).0).0 in
    when-joined (λ w. IsTaken (codes "play" ∷ w ∷ [])) word named play-joined
play-taken (name ∷ count ∷ []) e =
    let b = one (is_name name) (among (count_in count) plays_with) e in
    let c = plain-number 1 8 count (some-among (count_in count) plays_with b.1).0 in
    when-word (λ w. IsTaken (codes "play" ∷ w ∷ count ∷ [])) name (codes "--workers") b.0 (play-apart count c)
play-taken (a ∷ b ∷ c ∷ words) e = absurd (cc)

-- those of a workload, the number of workers with its name in the first, the next or the last place
joined-taken : (a b c : Text) → is_some (storm_in (a ∷ b ∷ c ∷ [])) ≡ true → IsTaken (codes "storm" ∷ a ∷ b ∷ c ∷ [])
joined-taken a b c e = by-test (is_joined a) _ _ (λ named s.
    let n = plain-numbers b c _ (some-among (count_after a) (storm_of b c) s).1 in
    when-joined (λ w. IsTaken (codes "storm" ∷ w ∷ b ∷ c ∷ [])) a named (λ k. storm-joined-first k b c n.0 n.1)) (by-test (is_joined b) _ _ (λ named s.
    let n = plain-numbers a c _ (some-among (count_after b) (storm_of a c) s).1 in
    when-joined (λ w. IsTaken (codes "storm" ∷ a ∷ w ∷ c ∷ [])) b named (λ k. storm-joined-next k a c n.0 n.1)) (λ s.
    let (k, t) = some-among (count_after c) (storm_of a b) s in
    let n = plain-numbers a b _ t in
    when-joined (λ w. IsTaken (codes "storm" ∷ a ∷ b ∷ w ∷ [])) c (one (is_joined c) (count_in (drop 10 c)) k).0 (λ k. storm-joined-last k a b n.0 n.1))) e

-- the same, the name and the number apart
apart-taken : (a b c d : Text) → is_some (storm_in (a ∷ b ∷ c ∷ d ∷ [])) ≡ true → IsTaken (codes "storm" ∷ a ∷ b ∷ c ∷ d ∷ [])
apart-taken a b c d e = by-test (is_name a) _ _ (λ named s.
    let (k, t) = some-among (count_in b) (storm_of c d) s in
    let n = plain-numbers c d _ t in
    when-word (λ w. IsTaken (codes "storm" ∷ w ∷ b ∷ c ∷ d ∷ [])) a (codes "--workers") named (storm-apart-first b c d (plain-number 1 8 b k) n.0 n.1)) (by-test (is_name b) _ _ (λ named s.
    let (k, t) = some-among (count_in c) (storm_of a d) s in
    let n = plain-numbers a d _ t in
    when-word (λ w. IsTaken (codes "storm" ∷ a ∷ w ∷ c ∷ d ∷ [])) b (codes "--workers") named (storm-apart-next c a d (plain-number 1 8 c k) n.0 n.1)) (by-test (is_name c) _ _ (λ named s.
    let (k, t) = some-among (count_in d) (storm_of a b) s in
    let n = plain-numbers a b _ t in
    when-word (λ w. IsTaken (codes "storm" ∷ a ∷ b ∷ w ∷ d ∷ [])) c (codes "--workers") named (storm-apart-last d a b (plain-number 1 8 d k) n.0 n.1)) (λ s. absurd (cc)))) e

-- the words of a workload
storm-taken : (words : List Text) → is_some (storm_in words) ≡ true → IsTaken (codes "storm" ∷ words)
storm-taken [] e = absurd (cc)
storm-taken (a ∷ []) e = absurd (cc)
storm-taken (a ∷ b ∷ []) e =
    let n = plain-numbers a b None e in
    storm-alone a b n.0 n.1
storm-taken (a ∷ b ∷ c ∷ []) e = joined-taken a b c e
storm-taken (a ∷ b ∷ c ∷ d ∷ []) e = apart-taken a b c d e
storm-taken (a ∷ b ∷ c ∷ d ∷ x ∷ words) e = absurd (cc)

-- words that have a form
pub form-taken : (words : List Text) → is_some (form_in words) ≡ true → IsTaken words
form-taken [] e = absurd (cc)
form-taken (word ∷ words) e = by-test (bytes_eq word (codes "play")) _ _
    (λ named s. when-word (λ w. IsTaken (w ∷ words)) word (codes "play") named (play-taken words s))
    (λ s.
    let b = one (bytes_eq word (codes "storm")) (storm_in words) s in
    when-word (λ w. IsTaken (w ∷ words)) word (codes "storm") b.0 (storm-taken words b.1)) e

-- one map after another
option_map-twice : {A B C : Type 0} (f : A → B) (g : B → C) (x : Option A) → option_map g (option_map f x) ≡ option_map (λ a. g (f a)) x
option_map-twice f g None = refl
option_map-twice f g (Some x) = refl

-- the name of a subcommand is in its rows
pub name-in_rows : (m : ArgMatches) → option_map (λ p. p.0) (subcommand_rows_of m) ≡ subcommand_name_of m
name-in_rows m = option_map-twice _ _ _

-- ---- what std parses

-- decimal digits are a numeral
all-digits : IsNumeralModel (λ ds. all_ascii_digits ds ≡ true) (digits_value 10)
all-digits = numerals_by_value (λ ds. all_ascii_digits ds ≡ true) tells_all_ascii_digits

-- a word that doesn't begin with a plus
pub no-plus : (word : Text) → false ≡ starts_with nat_eq word (43 ∷ []) → get_or word 0 0 ≢ 43
no-plus [] f e = absurd (omega (arith, e))
no-plus (b ∷ bs) f e =
    let t : false ≡ starts_with nat_eq (43 ∷ bs) (43 ∷ []) = subst (λ (x : ℕ). false ≡ starts_with nat_eq (x ∷ bs) (43 ∷ [])) e f in
    absurd (cc)

-- a word that parses to a number in the range
pub parsed-number : {E : Type 0} (least most : ℕ) (word : Text) (r : Result ℕ E) (n : ℕ) → ParsesUnsigned 32 10 word r → get_or word 0 0 ≢ 43 → r ≡ Ok n → length word ≤ 10 → least ≤ n → n ≤ most → Some n ≡ number_in least most word
parsed-number {E} least most word r n p f e short low high =
    let k = subst (λ (x : Result ℕ E). OkIff x ((all_ascii_digits word ≡ true) × (0 < length word) × (digits_value 10 word < 2 ^ 32)) (digits_value 10 word)) e (parse_plain all-digits 32 word r p f) in
    number-in-range least most word n k.1 k.0.0 k.0.1 short low high

-- a word that doesn't parse
pub unparsed-number : {E : Type 0} (least most : ℕ) (word : Text) (r : Result ℕ E) (x : E) → most < 2 ^ 32 → ParsesUnsigned 32 10 word r → r ≡ Err x → None ≡ number_in least most word
unparsed-number {E} least most word r x m p e = none-numbered least most word (λ i.
    let h = i.high in
    let g : r ≡ Ok (digits_value 10 word) = parse_gives all-digits 32 word r p i.digits i.some (omega (arith, h, m)) in
    absurd (let q : ◌≡◌ {A = Result ℕ E} (Err x) (Ok (digits_value 10 word)) = sym e ∙ g in cc))
