-- Phrases that several statements have: names, literals, calls and filters.
-- ClickHouse documentation, SQL reference, "Syntax"; SELECT, WHERE. The limits of a filter are this program's own.
use Rattle.std.specs.Prelude.{ℕ, zero, suc, ◌+◌, nat_lt, List, [], ◌∷◌, Bool, true, false, codes, if◌then◌else◌, Option, Some, None}
use Rattle.std.specs.Option.{is_some}
use Rattle.rmt_values.specs.declared.literal.Literal.{Literal}
use Rattle.rmt_values.specs.declared.literal.Literal.TheVariants as literals
use Rattle.rmt_sql_tokens.specs.declared.symbol_kind.SymbolKind.{SymbolKind}
use Rattle.rmt_sql_tokens.specs.declared.symbol_kind.SymbolKind.TheVariants as symbols
use Rattle.rmt_sql_tokens.specs.Tokens.{Token, Beyond, Spot}
use Rattle.rmt_sql_tokens.specs.Classes.{Class, Keyword, AnyText, Sign}
use Rattle.rmt_sql_tokens.specs.Singles.{keyword, exactly, symbol, a_word, a_column, a_number, a_text, a_comparison, an_end}
use Rattle.rmt_sql_tokens.specs.Exact.{Rule, token, ◌then◌, gives, maybe, either, many, always, item}
use Rattle.rmt_values.specs.declared.filter.Filter.{Filter}
use Rattle.rmt_values.specs.declared.filter.Filter.TheOpen.{Filter-F}
use Rattle.rmt_values.specs.declared.filter.Filter.TheOpen as level
use Rattle.rmt_values.specs.declared.filter.Filter.TheFolds.{fold-Filter}
use Rattle.rmt_values.specs.declared.filter.Filter.TheVariants.{Test, Both, Either, Not}

-- ---- parts

-- a keyword, in any case of its letters
abbrev pub the : List ℕ → Rule (Unit {0})
the small = token (keyword small)

-- this very word
abbrev pub very : List ℕ → Rule (Unit {0})
very text = token (exactly text)

-- this symbol
abbrev pub the_symbol : SymbolKind → Rule (Unit {0})
the_symbol m = token (symbol m)

-- it begins with `(`
abbrev pub opening : List Class
opening = Sign symbols.Open ∷ []

-- it begins with `,`
abbrev pub comma : List Class
comma = Sign symbols.Comma ∷ []

-- it begins with this keyword
abbrev pub word : List ℕ → List Class
word small = Keyword small ∷ []

-- , x
abbrev pub further : {A : Type 0} → Rule A → List A → Rule (List A)
further r all = the_symbol symbols.Comma then λ _. item r all

-- { , x }
abbrev pub more_listed : {A : Type 0} → Rule A → List A → Rule (List A)
more_listed r = many always comma (further r)

-- x { , x }
abbrev pub listed : {A : Type 0} → Rule A → Rule (List A)
listed r = item r [] then λ first. more_listed r first

-- what a word is, on its own or with parentheses after it
pub data Called (A : Type 0) : Type 0 where
  Bare : List ℕ → Called A
  Call : A → Called A

-- a word with what was in its parentheses, where there were some
abbrev pub called_of : {A : Type 0} → List ℕ → Option A → Called A
called_of w None = Bare w
called_of w (Some a) = Call a

-- what may come after a word: parentheses, where it takes some
abbrev pub call_after : {A : Type 0} → Bool → Rule A → List ℕ → Rule (Called A)
call_after true call w = maybe opening call then λ o. gives (called_of w o)
call_after false call w = gives (Bare w)

-- a word, and what is in parentheses after it, where it is a word that takes some
abbrev pub called : {A : Type 0} → (List ℕ → Bool) → (List ℕ → Rule A) → Rule (Called A)
called takes call = token a_word then λ w. call_after (takes w) (call w) w

-- [ - ] number | text
unfoldable pub literal : Rule Literal
literal =
    either (AnyText ∷ [])
    (token a_text then λ text. gives (literals.Text text))
    (maybe (Sign symbols.Minus ∷ []) (the_symbol symbols.Minus) then λ minus. token a_number then λ n. gives (literals.Number (is_some minus) n))

-- word { , word }
unfoldable pub names : Rule (List (List ℕ))
names = listed (token a_word)

-- ( names )
unfoldable pub names_in_parentheses : Rule (List (List ℕ))
names_in_parentheses = the_symbol symbols.Open then λ _. names then λ all. the_symbol symbols.Close then λ _. gives all

-- ( )
abbrev pub tuple_call : {A : Type 0} → A → Rule A
tuple_call a = the_symbol symbols.Open then λ _. the_symbol symbols.Close then λ _. gives a

-- ---- filters

-- how many comparisons one level has, given those of the filters inside it
abbrev pub tests_at : Filter-F ℕ → ℕ
tests_at (level.Test column cmp value) = 1
tests_at (level.Both f g) = f + g
tests_at (level.Either f g) = f + g
tests_at (level.Not f) = f

-- how many comparisons a filter has
abbrev pub tests_in : Filter → ℕ
tests_in filter = fold-Filter ℕ tests_at filter

-- the token is what a limit refuses
abbrev pub beyond_in : Token → Option (List ℕ)
beyond_in Beyond = Some []
beyond_in _ = None

-- a column's word; after 256 comparisons a word is beyond the limit, though what comes before it is not
abbrev pub column_after : ℕ → Spot → Option (List ℕ)
column_after before s = if nat_lt before 256 then a_column s else beyond_in s.token

-- column cmp literal, after so many comparisons
unfoldable pub comparison : ℕ → Rule Filter
comparison before = token (column_after before) then λ column. token a_comparison then λ cmp. literal then λ value. gives (Test column cmp value)

-- AND unary
abbrev pub and_unary : (ℕ → Rule Filter) → ℕ → Filter → Rule Filter
and_unary unary before f = the (codes "and") then λ _. unary (before + tests_in f) then λ g. gives (Both f g)

-- unary { AND unary }
abbrev pub conj : (ℕ → Rule Filter) → ℕ → Rule Filter
conj unary before = unary before then λ first. many always (word (codes "and")) (and_unary unary before) first

-- OR conj
abbrev pub or_conj : (ℕ → Rule Filter) → ℕ → Filter → Rule Filter
or_conj unary before f = the (codes "or") then λ _. conj unary (before + tests_in f) then λ g. gives (Either f g)

-- conj { OR conj }
abbrev pub disj : (ℕ → Rule Filter) → ℕ → Rule Filter
disj unary before = conj unary before then λ first. many always (word (codes "or")) (or_conj unary before) first

-- NOT unary
abbrev pub negation : (ℕ → Rule Filter) → ℕ → Rule Filter
negation unary before = the (codes "not") then λ _. unary before then λ f. gives (Not f)

-- ( filter )
abbrev pub group : (ℕ → Rule Filter) → ℕ → Rule Filter
group unary before = the_symbol symbols.Open then λ _. disj unary before then λ f. the_symbol symbols.Close then λ _. gives f

-- NOT unary | ( filter ) | comparison, with so many NOTs and parentheses open at most
unfoldable pub unary : ℕ → ℕ → Rule Filter
unary zero before = comparison before
unary (suc depth) before = either (word (codes "not")) (negation (unary depth) before) (either opening (group (unary depth) before) (comparison before))

-- a filter, with at most 64 NOTs and parentheses open
unfoldable pub filter : Rule Filter
filter = disj (unary 64) 0

-- WHERE filter
unfoldable pub where_filter : Rule Filter
where_filter = the (codes "where") then λ _. filter

-- ---- CREATE

-- the end of a statement, and how many bytes there are after it
abbrev pub ended : {A : Type 0} → A → Rule (A × ℕ)
ended a = token an_end then λ left. gives (a, left)

-- something, where it is so
abbrev pub some_if : Bool → Option (Unit {0})
some_if true = Some tt
some_if false = None
