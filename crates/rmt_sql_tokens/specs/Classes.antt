-- Classes of tokens, by which forms are distinguished.
use Rattle.std.specs.Prelude.{ℕ, ◌||◌, not, List, [], ◌∷◌, codes, Bool, true, false}
use Rattle.std.specs.Str.{bytes_eq}
use Rattle.rmt_sql_tokens.specs.declared.symbol_kind.SymbolKind.{SymbolKind}
use Rattle.rmt_sql_tokens.specs.declared.symbol_kind.SymbolKind.TheVariants as symbols
use Rattle.rmt_sql_tokens.specs.Tokens.{Token, Word, Number, Text, Symbol, Data, Semicolon, Beyond, Spot, is_keyword}

-- a keyword in any case, this very word, any word, a word that may name a column in a filter, and the other tokens
pub data Class : Type 0 where
  Keyword : List ℕ → Class
  Exactly : List ℕ → Class
  AnyWord : Class
  ColumnWord : Class
  AnyNumber : Class
  AnyText : Class
  Sign : SymbolKind → Class
  AnyData : Class
  End : Class
  Limit : Class

-- the two marks are the same
abbrev pub is_same : SymbolKind → SymbolKind → Bool
is_same symbols.Open symbols.Open = true
is_same symbols.Close symbols.Close = true
is_same symbols.Comma symbols.Comma = true
is_same symbols.Equal symbols.Equal = true
is_same symbols.At symbols.At = true
is_same symbols.Plus symbols.Plus = true
is_same symbols.Minus symbols.Minus = true
is_same symbols.Star symbols.Star = true
is_same symbols.Differs symbols.Differs = true
is_same symbols.Less symbols.Less = true
is_same symbols.AtMost symbols.AtMost = true
is_same symbols.Greater symbols.Greater = true
is_same symbols.AtLeast symbols.AtLeast = true
is_same _ _ = false

-- in a filter the words NOT, AND and OR are keywords
abbrev pub is_connective : List ℕ → Bool
is_connective word = is_keyword word (codes "not") || (is_keyword word (codes "and") || is_keyword word (codes "or"))

-- the token is of this class
abbrev pub is_of : Class → Token → Bool
is_of (Keyword small) (Word word) = is_keyword word small
is_of (Exactly text) (Word word) = bytes_eq word text
is_of AnyWord (Word word) = true
is_of ColumnWord (Word word) = not (is_connective word)
is_of AnyNumber (Number n) = true
is_of AnyText (Text text) = true
is_of (Sign kind) (Symbol found) = is_same kind found
is_of AnyData (Data bytes) = true
is_of End Semicolon = true
is_of Limit Beyond = true
is_of _ _ = false

-- the token is of one of the classes
abbrev pub among : List Class → Spot → Bool
among [] s = false
among (c ∷ []) s = is_of c s.token
among (c ∷ d ∷ cs) s = is_of c s.token || among (d ∷ cs) s

-- the next token is of one of the classes
abbrev pub next_among : List Class → List Spot → Bool
next_among cs [] = false
next_among cs (s ∷ ss) = among cs s
