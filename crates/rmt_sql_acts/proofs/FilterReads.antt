-- What the loops over the parts of a filter, and its parentheses, read.
use Rattle.std.proofs.Common.{◌≡◌, ◌∙◌, ap, sym, ℕ, suc, ◌+◌, ◌≤◌, List, [], ◌∷◌, refl, subst, true, false, None, arith, nat_lt, Result, Ok, Err}
use Rattle.std.specs.Prelude.{codes, IsErrAnd}
use Rattle.std.proofs.lemmas.Bool.Decides.{nat_tests}
use Rattle.rmt_sql_tokens.specs.declared.symbol_kind.SymbolKind.TheVariants as symbols
use Rattle.rmt_sql_tokens.specs.declared.read_error.ReadError.{ReadError}
use Rattle.rmt_sql_tokens.specs.declared.read_error.ReadError.TheVariants as errors
use Rattle.rmt_sql_tokens.specs.Tokens.{Token, Beyond, Spot}
use Rattle.rmt_sql_tokens.specs.Classes.{Limit, is_of, next_among}
use Rattle.rmt_sql_tokens.specs.Singles.{keyword, symbol}
use Rattle.rmt_sql_tokens.specs.Exact.{◌>>=◌, one, Rule, ◌then◌, gives, Fails, left_of}
use Rattle.rmt_values.specs.declared.filter.Filter.{Filter}
use Rattle.rmt_values.specs.declared.filter.Filter.TheVariants.{Both, Either, rolls-Both, rolls-Either}
use Rattle.rmt_sql_acts.specs.Phrases.{tests_in, tests_at}
use Rattle.rmt_values.specs.declared.filter.Filter.TheOpen as level
use Rattle.rmt_values.specs.declared.filter.Filter.TheFolds.{fold-roll-Filter}
use Rattle.rmt_sql_acts.specs.Phrases.{the, word, opening, and_unary, or_conj, conj, disj, unary, comparison, beyond_in}

pub tests_in-Both : (f g : Filter) → tests_in (Both f g) ≡ tests_in f + tests_in g
tests_in-Both f g = ap tests_in (sym (rolls-Both f g)) ∙ fold-roll-Filter ℕ tests_at (level.Both f g)

pub tests_in-Either : (f g : Filter) → tests_in (Either f g) ≡ tests_in f + tests_in g
tests_in-Either f g = ap tests_in (sym (rolls-Either f g)) ∙ fold-roll-Filter ℕ tests_at (level.Either f g)

pub fails_bind : {A B : Type 0} (e : ReadError) (o : Result A (List Spot)) (k : A → Result B (List Spot)) → Fails e o → Fails e (o >>= k)
fails_bind errors.Memory o k h = tt
fails_bind (errors.Fault n) (Ok x) k h = absurd h
fails_bind (errors.Fault n) (Err f) k h = h

-- one more after a keyword
pub more_reads : (small : List ℕ) (r : Rule Filter) (join : Filter → Filter) (ts after : List Spot) (g : Filter) (rest : List Spot) → one (keyword small) ts ≡ Ok (tt, after) → r.read after ≡ Ok (g, rest)
    → (the small then λ _. r then λ g. gives (join g)).read ts ≡ Ok (join g, rest)
more_reads small r join ts after g rest goes read = rw goes (rw read refl)

pub more_fails : (small : List ℕ) (r : Rule Filter) (join : Filter → Filter) (ts after : List Spot) (e : ReadError) → one (keyword small) ts ≡ Ok (tt, after) → Fails e (r.read after)
    → Fails e ((the small then λ _. r then λ g. gives (join g)).read ts)
more_fails small r join ts after e goes fails = rw goes (fails_bind e (r.read after) _ fails)

pub and_reads : (u : ℕ → Rule Filter) (before total : ℕ) (f g : Filter) (ts after rest : List Spot) → total ≡ before + tests_in f → one (keyword (codes "and")) ts ≡ Ok (tt, after) → (u total).read after ≡ Ok (g, rest) → (and_unary u before f).read ts ≡ Ok (Both f g, rest)
and_reads u before total f g ts after rest same goes read = more_reads (codes "and") (u (before + tests_in f)) (λ g. Both f g) ts after g rest goes (subst (λ n. (u n).read after ≡ Ok (g, rest)) same read)

pub and_fails : (u : ℕ → Rule Filter) (before total : ℕ) (f : Filter) (ts after : List Spot) (e : ReadError) → total ≡ before + tests_in f → one (keyword (codes "and")) ts ≡ Ok (tt, after) → Fails e ((u total).read after) → Fails e ((and_unary u before f).read ts)
and_fails u before total f ts after e same goes fails = more_fails (codes "and") (u (before + tests_in f)) (λ g. Both f g) ts after e goes (subst (λ n. Fails e ((u n).read after)) same fails)

pub or_reads : (u : ℕ → Rule Filter) (before total : ℕ) (f g : Filter) (ts after rest : List Spot) → total ≡ before + tests_in f → one (keyword (codes "or")) ts ≡ Ok (tt, after) → (conj u total).read after ≡ Ok (g, rest) → (or_conj u before f).read ts ≡ Ok (Either f g, rest)
or_reads u before total f g ts after rest same goes read = more_reads (codes "or") (conj u (before + tests_in f)) (λ g. Either f g) ts after g rest goes (subst (λ n. (conj u n).read after ≡ Ok (g, rest)) same read)

pub or_fails : (u : ℕ → Rule Filter) (before total : ℕ) (f : Filter) (ts after : List Spot) (e : ReadError) → total ≡ before + tests_in f → one (keyword (codes "or")) ts ≡ Ok (tt, after) → Fails e ((conj u total).read after) → Fails e ((or_conj u before f).read ts)
or_fails u before total f ts after e same goes fails = more_fails (codes "or") (conj u (before + tests_in f)) (λ g. Either f g) ts after e goes (subst (λ n. Fails e ((conj u n).read after)) same fails)

-- a parenthesis that isn't closed
pub close_fails : (k d before : ℕ) (f : Filter) (ts inner later : List Spot) (e : ReadError) → d ≡ suc k → next_among (word (codes "not")) ts ≡ false → next_among opening ts ≡ true → one (symbol symbols.Open) ts ≡ Ok (tt, inner)
    → (disj (unary k) before).read inner ≡ Ok (f, later) → Fails e (one (symbol symbols.Close) later) → Fails e ((unary d before).read ts)
unfolding unary
close_fails k d before f ts inner later e is none opens goes read fails =
    rw is (rw none (rw opens (rw goes (rw read (fails_bind e (one (symbol symbols.Close) later) _ fails)))))

-- a token that no limit refuses has no value as one
pub beyond_none : (t : Token) → is_of Limit t ≡ false → beyond_in t ≡ None
beyond_none Beyond h = absurd cc
beyond_none _ h = refl

-- after 256 comparisons the next token is none that may follow
pub limit_fails : (before n : ℕ) (ts : List Spot) → 256 ≤ before → n ≡ left_of ts → next_among (Limit ∷ []) ts ≡ false → IsErrAnd ((comparison before).read ts) (λ rest. n ≡ left_of rest)
unfolding comparison
limit_fails before n [] many place within = place
limit_fails before n (s ∷ ss) many place within =
    let full : nat_lt before 256 ≡ false = grind (arith, nat_tests) in
    rw full (rw (beyond_none s.token within) place)
