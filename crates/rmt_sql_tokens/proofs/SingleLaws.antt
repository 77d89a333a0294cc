-- Single tokens are read exactly.
use Rattle.std.proofs.Common.{◌≡◌, ℕ, List, [], ◌∷◌, refl, Bool, true, false, cond, Some, None}
use Rattle.rmt_values.specs.declared.cmp.Cmp.{Cmp}
use Rattle.rmt_values.specs.declared.cmp.Cmp.TheVariants as cmps
use Rattle.rmt_sql_tokens.specs.declared.symbol_kind.SymbolKind.{SymbolKind}
use Rattle.rmt_sql_tokens.specs.declared.symbol_kind.SymbolKind.TheVariants as symbols
use Rattle.rmt_sql_tokens.specs.Tokens.{Token, Word, Number, Text, Symbol, Data, Semicolon, spot}
use Rattle.rmt_sql_tokens.specs.Classes.{Class, Keyword, Exactly, AnyWord, AnyNumber, AnyText, Sign, AnyData, End, is_of, among}
use Rattle.rmt_sql_tokens.specs.Exact.{token, never}
use Rattle.rmt_sql_tokens.specs.Singles.{of_class, keyword, exactly, symbol, a_word, a_number, a_text, some_data, a_comparison, comparison_of, an_end, a_semicolon}
use Rattle.rmt_sql_tokens.proofs.Laws.{Law, law_token}

pub chosen : {A : Type 0} (b : Bool) (a u : A) → cond b (Some a) None ≡ Some u → b ≡ true
chosen true a u h = refl
chosen false a u h = absurd cc

pub class_law : (c : Class) (t : Token) → is_of c t ≡ true → Law (token (of_class c)) never (c ∷ [])
class_law c t is = law_token (of_class c) (c ∷ []) (spot t 0) tt (rw is refl) (λ s u h. chosen (is_of c s.token) tt u h)

pub keyword_law : (w : List ℕ) → is_of (Keyword w) (Word w) ≡ true → Law (token (keyword w)) never (Keyword w ∷ [])
keyword_law w is = class_law (Keyword w) (Word w) is

pub exactly_law : (w : List ℕ) → is_of (Exactly w) (Word w) ≡ true → Law (token (exactly w)) never (Exactly w ∷ [])
exactly_law w is = class_law (Exactly w) (Word w) is

pub symbol_law : (m : SymbolKind) → is_of (Sign m) (Symbol m) ≡ true → Law (token (symbol m)) never (Sign m ∷ [])
symbol_law m is = class_law (Sign m) (Symbol m) is

word_reads : (t : Token) (left : ℕ) (w : List ℕ) → a_word (spot t left) ≡ Some w → is_of AnyWord t ≡ true
word_reads (Word x) left w h = refl
word_reads _ left w h = absurd cc

pub word_law : Law (token a_word) never (AnyWord ∷ [])
word_law = law_token a_word (AnyWord ∷ []) (spot (Word []) 0) [] refl (λ s w h. word_reads s.token s.left w h)

number_reads : (t : Token) (left n : ℕ) → a_number (spot t left) ≡ Some n → is_of AnyNumber t ≡ true
number_reads (Number x) left n h = refl
number_reads _ left n h = absurd cc

pub number_law : Law (token a_number) never (AnyNumber ∷ [])
number_law = law_token a_number (AnyNumber ∷ []) (spot (Number 0) 0) 0 refl (λ s n h. number_reads s.token s.left n h)

text_reads : (t : Token) (left : ℕ) (w : List ℕ) → a_text (spot t left) ≡ Some w → is_of AnyText t ≡ true
text_reads (Text x) left w h = refl
text_reads _ left w h = absurd cc

pub text_law : Law (token a_text) never (AnyText ∷ [])
text_law = law_token a_text (AnyText ∷ []) (spot (Text []) 0) [] refl (λ s w h. text_reads s.token s.left w h)

data_reads : (t : Token) (left : ℕ) (w : List ℕ) → some_data (spot t left) ≡ Some w → is_of AnyData t ≡ true
data_reads (Data x) left w h = refl
data_reads _ left w h = absurd cc

pub data_law : Law (token some_data) never (AnyData ∷ [])
data_law = law_token some_data (AnyData ∷ []) (spot (Data []) 0) [] refl (λ s w h. data_reads s.token s.left w h)

end_reads : (t : Token) (left n : ℕ) → an_end (spot t left) ≡ Some n → is_of End t ≡ true
end_reads Semicolon left n h = refl
end_reads _ left n h = absurd cc

pub end_law : Law (token an_end) never (End ∷ [])
end_law = law_token an_end (End ∷ []) (spot Semicolon 0) 0 refl (λ s n h. end_reads s.token s.left n h)

semicolon_reads : (t : Token) (left n : ℕ) → a_semicolon (spot t left) ≡ Some n → is_of End t ≡ true
semicolon_reads Semicolon left n h = refl
semicolon_reads _ left n h = absurd cc

pub semicolon_law : Law (token a_semicolon) never (End ∷ [])
semicolon_law = law_token a_semicolon (End ∷ []) (spot Semicolon 1) 0 refl (λ s n h. semicolon_reads s.token s.left n h)

abbrev pub comparisons : List Class
comparisons = Sign symbols.Equal ∷ Sign symbols.Differs ∷ Sign symbols.Less ∷ Sign symbols.AtMost ∷ Sign symbols.Greater ∷ Sign symbols.AtLeast ∷ []

symbol_reads : (m : SymbolKind) (left : ℕ) (c : Cmp) → comparison_of m ≡ Some c → among comparisons (spot (Symbol m) left) ≡ true
symbol_reads symbols.Equal left c h = refl
symbol_reads symbols.Differs left c h = refl
symbol_reads symbols.Less left c h = refl
symbol_reads symbols.AtMost left c h = refl
symbol_reads symbols.Greater left c h = refl
symbol_reads symbols.AtLeast left c h = refl
symbol_reads _ left c h = absurd cc

comparison_reads : (t : Token) (left : ℕ) (c : Cmp) → a_comparison (spot t left) ≡ Some c → among comparisons (spot t left) ≡ true
comparison_reads (Symbol m) left c h = symbol_reads m left c h
comparison_reads _ left c h = absurd cc

pub comparison_law : Law (token a_comparison) never comparisons
comparison_law = law_token a_comparison comparisons (spot (Symbol symbols.Equal) 0) cmps.Eq refl (λ s c h. comparison_reads s.token s.left c h)
