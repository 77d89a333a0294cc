-- Single tokens: which value each gives where it is the one that is wanted.
use Rattle.std.specs.Prelude.{ℕ, ◌==◌, nat_lt, pred, List, if◌then◌else◌, Option, Some, None}
use Rattle.rmt_values.specs.declared.cmp.Cmp.{Cmp}
use Rattle.rmt_values.specs.declared.cmp.Cmp.TheVariants as cmps
use Rattle.rmt_sql_tokens.specs.declared.symbol_kind.SymbolKind.{SymbolKind}
use Rattle.rmt_sql_tokens.specs.declared.symbol_kind.SymbolKind.TheVariants as symbols
use Rattle.rmt_sql_tokens.specs.Tokens.{Token, Word, Number, Text, Symbol, Data, Semicolon, Spot}
use Rattle.rmt_sql_tokens.specs.Classes.{Class, Keyword, Exactly, Sign, is_of, is_connective}

-- a token of this class
abbrev pub of_class : Class → Spot → Option (Unit {0})
of_class c s = if is_of c s.token then Some tt else None

-- this keyword, in any case of its letters
abbrev pub keyword : List ℕ → Spot → Option (Unit {0})
keyword small = of_class (Keyword small)

-- this very word
abbrev pub exactly : List ℕ → Spot → Option (Unit {0})
exactly text = of_class (Exactly text)

-- this symbol
abbrev pub symbol : SymbolKind → Spot → Option (Unit {0})
symbol kind = of_class (Sign kind)

-- the word that a token is
abbrev pub word_in : Token → Option (List ℕ)
word_in (Word word) = Some word
word_in _ = None

-- a word
abbrev pub a_word : Spot → Option (List ℕ)
a_word s = word_in s.token

-- the word that a token is, but for NOT, AND and OR
abbrev pub column_in : Token → Option (List ℕ)
column_in (Word word) = if is_connective word then None else Some word
column_in _ = None

-- a word that may name a column in a filter
abbrev pub a_column : Spot → Option (List ℕ)
a_column s = column_in s.token

-- the number that a token is
abbrev pub number_in : Token → Option ℕ
number_in (Number n) = Some n
number_in _ = None

-- a number
abbrev pub a_number : Spot → Option ℕ
a_number s = number_in s.token

-- the token is this number
abbrev pub this_number_in : ℕ → Token → Option (Unit {0})
this_number_in wanted (Number n) = if n == wanted then Some tt else None
this_number_in wanted _ = None

-- this very number
abbrev pub this_number : ℕ → Spot → Option (Unit {0})
this_number wanted s = this_number_in wanted s.token

-- the text that a token is
abbrev pub text_in : Token → Option (List ℕ)
text_in (Text text) = Some text
text_in _ = None

-- a text
abbrev pub a_text : Spot → Option (List ℕ)
a_text s = text_in s.token

-- the data that a token is
abbrev pub data_in : Token → Option (List ℕ)
data_in (Data bytes) = Some bytes
data_in _ = None

-- the data after FORMAT CSV
abbrev pub some_data : Spot → Option (List ℕ)
some_data s = data_in s.token

-- the comparison that a symbol stands for
abbrev pub comparison_of : SymbolKind → Option Cmp
comparison_of symbols.Equal = Some cmps.Eq
comparison_of symbols.Differs = Some cmps.Ne
comparison_of symbols.Less = Some cmps.Lt
comparison_of symbols.AtMost = Some cmps.Le
comparison_of symbols.Greater = Some cmps.Gt
comparison_of symbols.AtLeast = Some cmps.Ge
comparison_of _ = None

-- the comparison that a token stands for
abbrev pub comparison_in : Token → Option Cmp
comparison_in (Symbol kind) = comparison_of kind
comparison_in _ = None

-- = != <> < <= > >=
abbrev pub a_comparison : Spot → Option Cmp
a_comparison s = comparison_in s.token

-- how many bytes come after a statement's end, with so many from the token on
abbrev pub end_in : Token → ℕ → Option ℕ
end_in Semicolon left = Some (pred left)
end_in _ left = None

-- the end of a statement, with how many bytes there are after it
abbrev pub an_end : Spot → Option ℕ
an_end s = end_in s.token s.left

-- how many bytes come after a `;` of the script, with so many from the token on; none are left where the script ends
abbrev pub semicolon_in : Token → ℕ → Option ℕ
semicolon_in Semicolon left = if nat_lt 0 left then Some (pred left) else None
semicolon_in _ left = None

-- a `;` of the script itself, with how many bytes there are after it
abbrev pub a_semicolon : Spot → Option ℕ
a_semicolon s = semicolon_in s.token s.left
