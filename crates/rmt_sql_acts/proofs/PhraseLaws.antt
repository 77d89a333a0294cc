-- Literals, names, calls and filters are read exactly.
use Rattle.std.proofs.Common.{◌≡◌, ℕ, ◌+◌, zero, suc, List, [], ◌∷◌, ◌<◌, length, refl, Bool, true, false, cond, Option, Some, None, Result, Ok, Err, IfOk, nat_lt, not}
use Rattle.std.specs.Prelude.{codes, ◌||◌}
use Rattle.std.specs.Option.{is_some}
use Rattle.rmt_values.specs.declared.literal.Literal.TheVariants as literals
use Rattle.rmt_sql_tokens.specs.declared.symbol_kind.SymbolKind.TheVariants as symbols
use Rattle.rmt_sql_tokens.specs.Tokens.{Token, Word, Beyond, Spot, spot}
use Rattle.rmt_sql_tokens.specs.Classes.{Class, Keyword, AnyWord, ColumnWord, AnyNumber, AnyText, Sign, Limit, is_connective, among, End}
use Rattle.rmt_sql_tokens.specs.declared.cursor.Cursor.{Cursor}
use Rattle.rmt_sql_tokens.specs.declared.read_error.ReadError.{ReadError}
use Rattle.rmt_sql_tokens.specs.Lexing.{tokens}
use Rattle.rmt_sql_tokens.specs.Singles.{a_column}
use Rattle.rmt_sql_tokens.specs.Exact.{IsExact, ReadsAs, never, Rule, token, item, always}
use Rattle.rmt_sql_tokens.proofs.Apart.{disjoint}
use Rattle.rmt_sql_tokens.proofs.Closed.{exact_gives, exact_map, on_many, on_maybe}
use Rattle.rmt_sql_tokens.proofs.Laws.{Law, law_token, law_then, law_gives, law_either, law_maybe, law_chain, law_item, law_wider, step, step_on, exact_maybe_last, exact_gives_on, on_last, last_apart}
use Rattle.rmt_sql_tokens.proofs.Loops.{takes_some}
use Rattle.rmt_sql_tokens.proofs.SingleLaws.{keyword_law, symbol_law, word_law, number_law, text_law, comparison_law, end_law}
use Rattle.rmt_values.specs.declared.filter.Filter.{Filter}
use Rattle.rmt_values.specs.declared.filter.Filter.TheVariants.{Both, Either, Not}
use Rattle.rmt_sql_acts.specs.Phrases.{tests_in}
use Rattle.rmt_sql_acts.specs.Phrases.{the_symbol, opening, comma, word, further, listed, Called, Bare, Call, called_of, call_after, called, literal, names, names_in_parentheses, tuple_call, and_unary, or_conj, column_after, beyond_in, comparison, conj, disj, unary, filter, where_filter, ended}

pub open_law : Law (the_symbol symbols.Open) never opening
open_law = symbol_law symbols.Open refl

pub close_law : Law (the_symbol symbols.Close) never (Sign symbols.Close ∷ [])
close_law = symbol_law symbols.Close refl

pub comma_law : Law (the_symbol symbols.Comma) never comma
comma_law = symbol_law symbols.Comma refl

abbrev pub literal_firsts : List Class
literal_firsts = AnyText ∷ Sign symbols.Minus ∷ AnyNumber ∷ []

pub literal_law : Law literal never literal_firsts
unfolding literal
literal_law =
    law_either _ _ never (AnyText ∷ []) (Sign symbols.Minus ∷ AnyNumber ∷ [])
    (law_gives _ (λ text. literals.Text text) never never _ (λ _. refl) text_law)
    (law_maybe _ _ never never (Sign symbols.Minus ∷ []) (AnyNumber ∷ []) (symbol_law symbols.Minus refl)
    (λ minus. law_gives _ (λ n. literals.Number (is_some minus) n) never never _ (λ _. refl) number_law) refl (λ _. refl))
    refl

-- ---- lists

-- what goes on after a list: a comma, and what goes on with its last
abbrev pub on_list : {A : Type 0} → (A → List Class) → List A → List Class
on_list on = on_many always comma (on_last on)

pub law_further : {A : Type 0} (R : Rule A) (on : A → List Class) (cs : List Class) → Law R on cs → (all : List A) → Law (further R all) (on_last on) comma
law_further R on cs law all = law_then _ _ (on_last on) comma comma_law (λ _. (law_item R all on cs law).exact)

pub law_listed : {A : Type 0} (R : Rule A) (on : A → List Class) (cs : List Class) → Law R on cs → ((a : A) → disjoint comma (on a) ≡ true) → Law (listed R) (on_list on) cs
law_listed R on cs law apart =
    law_chain (item R []) always comma (further R) (on_last on) cs (law_item R [] on cs law) (λ all may. (law_further R on cs law all).exact) (λ all. (law_further R on cs law all).starts)
    (last_apart comma on refl apart)

-- what is read takes a token at least
pub read_takes : {A : Type 0} (R : Rule A) (on : A → List Class) (cs : List Class) → Law R on cs → (ts : List Spot) (result : Result (A × Cursor) ReadError)
    → ReadsAs (λ x. (x.0, tokens x.1)) result (R.read ts) → IfOk result (λ x. length (tokens x.1) < length ts)
read_takes R on cs law ts (Ok x) h = takes_some R on cs law ts x.0 (tokens x.1) h
read_takes R on cs law ts (Err e) h = tt

-- a comma takes a token
pub comma_takes : (ts after : List Spot) → (the_symbol symbols.Comma).read ts ≡ Ok (tt, after) → length after < length ts
comma_takes ts after read = takes_some (the_symbol symbols.Comma) never comma comma_law ts tt after read

-- after a list of which nothing goes on with an item
pub list_apart : {A : Type 0} (ds : List Class) → disjoint ds comma ≡ true → (all : List A) → disjoint ds (on_list (never {A = A}) all) ≡ true
list_apart ds apart [] = apart
list_apart ds apart (a ∷ []) = apart
list_apart ds apart (a ∷ b ∷ more) = list_apart ds apart (b ∷ more)

pub names_law : Law names (on_list never) (AnyWord ∷ [])
unfolding names
names_law = law_listed _ never _ word_law (λ _. refl)

pub names_in_parentheses_law : Law names_in_parentheses never opening
unfolding names_in_parentheses
names_in_parentheses_law =
    law_then _ _ never _ open_law (λ _.
    step_on _ _ (on_list never) never _ (λ _. Sign symbols.Close ∷ []) names_law (λ all. law_gives _ (λ _. all) never never _ (λ _. refl) close_law) (list_apart (Sign symbols.Close ∷ []) refl))

-- ---- calls

abbrev pub on_called : {A : Type 0} → (List ℕ → Bool) → Called A → List Class
on_called takes (Bare w) = cond (takes w) opening []
on_called takes (Call a) = []

pub law_called : {A : Type 0} (takes : List ℕ → Bool) (call : List ℕ → Rule A) → ((w : List ℕ) → Law (call w) never opening) → Law (called takes call) (on_called takes) (AnyWord ∷ [])
law_called {A} takes call law = law_then _ _ (on_called takes) _ word_law (λ w. go w (takes w) refl)
  where
    on_is : (w : List ℕ) → takes w ≡ true → (o : Option A) → on_called takes (called_of w o) ≡ on_maybe opening never o
    on_is w h None = rw h refl
    on_is w h (Some a) = refl

    go : (w : List ℕ) (b : Bool) → takes w ≡ b → IsExact (call_after b (call w) w) (on_called takes)
    go w true h = exact_map (called_of w) _ _ (on_maybe opening never) (on_called takes) (on_is w h) (exact_maybe_last (call w) never opening (law w))
    go w false h = exact_gives_on (Bare w) (on_called takes) (rw h refl)

pub tuple_call_law : {A : Type 0} (a : A) → Law (tuple_call a) never opening
tuple_call_law a = law_then _ _ never _ open_law (λ _. step _ _ never _ close_law (λ _. exact_gives a))

-- what no parenthesis begins does not go on with a call
pub called_apart : {A : Type 0} (takes : List ℕ → Bool) (ds : List Class) → disjoint ds opening ≡ true → disjoint ds [] ≡ true → (a : Called A) → disjoint ds (on_called takes a) ≡ true
called_apart takes ds some none (Bare w) = go (takes w)
  where
    go : (b : Bool) → disjoint ds (cond b opening []) ≡ true
    go true = some
    go false = none
called_apart takes ds some none (Call a) = none

pub ended_law : {A : Type 0} (a : A) → Law (ended a) never (End ∷ [])
ended_law a = law_then _ _ never _ end_law (λ left. exact_gives (a, left))

-- ---- filters

abbrev pub column_firsts : List Class
column_firsts = ColumnWord ∷ Limit ∷ []

not_connective : (b : Bool) (x w : List ℕ) → cond b None (Some x) ≡ Some w → not b || false ≡ true
not_connective true x w h = absurd cc
not_connective false x w h = refl

column_reads : (t : Token) (left : ℕ) (w : List ℕ) → a_column (spot t left) ≡ Some w → among column_firsts (spot t left) ≡ true
column_reads (Word x) left w h = not_connective (is_connective x) x w h
column_reads _ left w h = absurd cc

beyond_reads : (t : Token) (left : ℕ) (w : List ℕ) → beyond_in t ≡ Some w → among column_firsts (spot t left) ≡ true
beyond_reads Beyond left w h = refl
beyond_reads _ left w h = absurd cc

column_law : (before : ℕ) → Law (token (column_after before)) never column_firsts
column_law before = go (nat_lt before 256)
  where
    go : (b : Bool) → Law (token (λ s. cond b (a_column s) (beyond_in s.token))) never column_firsts
    go true = law_token _ column_firsts (spot (Word []) 0) [] refl (λ s w h. column_reads s.token s.left w h)
    go false = law_token _ column_firsts (spot Beyond 0) [] refl (λ s w h. beyond_reads s.token s.left w h)

pub comparison_law_of : (before : ℕ) → Law (comparison before) never column_firsts
unfolding comparison
comparison_law_of before =
    law_then _ _ never _ (column_law before) (λ c. step _ _ never _ comparison_law (λ op. step _ _ never _ literal_law (λ value. exact_gives _)))

abbrev pub and_word : List Class
and_word = word (codes "and")

abbrev pub or_word : List Class
or_word = word (codes "or")

abbrev pub on_conj : Filter → List Class
on_conj = on_many always and_word never

abbrev pub on_disj : Filter → List Class
on_disj = on_many always or_word on_conj

pub and_law : (u : ℕ → Rule Filter) (cs : List Class) → ((n : ℕ) → Law (u n) never cs) → (before : ℕ) (f : Filter) → Law (and_unary u before f) never and_word
and_law u cs law before f = law_then _ _ never and_word (keyword_law (codes "and") refl) (λ _. (law_gives _ (λ g. Both f g) never never cs (λ _. refl) (law (before + tests_in f))).exact)

pub conj_law : (u : ℕ → Rule Filter) (cs : List Class) → ((n : ℕ) → Law (u n) never cs) → (before : ℕ) → Law (conj u before) on_conj cs
conj_law u cs law before =
    law_chain (u before) always and_word _ never cs (law before) (λ f may. (and_law u cs law before f).exact) (λ f. (and_law u cs law before f).starts) (λ f. refl)

pub or_law : (u : ℕ → Rule Filter) (cs : List Class) → ((n : ℕ) → Law (u n) never cs) → (before : ℕ) (f : Filter) → Law (or_conj u before f) on_conj or_word
or_law u cs law before f = law_then _ _ on_conj or_word (keyword_law (codes "or") refl) (λ _. (law_gives _ (λ g. Either f g) on_conj on_conj cs (λ _. refl) (conj_law u cs law (before + tests_in f))).exact)

pub disj_law : (u : ℕ → Rule Filter) (cs : List Class) → ((n : ℕ) → Law (u n) never cs) → (before : ℕ) → Law (disj u before) on_disj cs
disj_law u cs law before =
    law_chain (conj u before) always or_word _ on_conj cs (conj_law u cs law before) (λ f may. (or_law u cs law before f).exact) (λ f. (or_law u cs law before f).starts) (λ f. refl)

abbrev pub unary_firsts : List Class
unary_firsts = Keyword (codes "not") ∷ Sign symbols.Open ∷ ColumnWord ∷ Limit ∷ []

pub unary_law : (depth before : ℕ) → Law (unary depth before) never unary_firsts
unfolding unary
unary_law zero before = law_wider _ never (Keyword (codes "not") ∷ Sign symbols.Open ∷ []) column_firsts (comparison_law_of before)
unary_law (suc depth) before =
    law_either _ _ never (word (codes "not")) (Sign symbols.Open ∷ column_firsts)
    (law_then _ _ never _ (keyword_law (codes "not") refl) (λ _. (law_gives _ (λ f. Not f) never never unary_firsts (λ _. refl) (unary_law depth before)).exact))
    (law_either _ _ never opening column_firsts
    (law_then _ _ never _ open_law (λ _.
    step_on _ _ on_disj never _ (λ _. Sign symbols.Close ∷ []) (disj_law (unary depth) unary_firsts (unary_law depth) before)
    (λ f. law_gives _ (λ _. f) never never _ (λ _. refl) close_law) (λ f. refl)))
    (comparison_law_of before) refl)
    refl

pub filter_law : Law filter on_disj unary_firsts
unfolding filter
filter_law = disj_law (unary 64) unary_firsts (unary_law 64) 0

pub where_law : Law where_filter on_disj (word (codes "where"))
unfolding where_filter
where_law = law_then _ _ on_disj _ (keyword_law (codes "where") refl) (λ _. filter_law.exact)
