-- Tokens as the code reads them, as definitions see them: the tokens from a cursor on, and the first of them.
use Rattle.std.specs.Prelude.{◌≡◌, ℕ, List, [], ◌∷◌, true, false, MatchOption, Option, Some, None, Ok}
use Rattle.rmt_sql_tokens.specs.declared.token.Token.{Token as Lexed}
use Rattle.rmt_sql_tokens.specs.declared.token.Token.TheVariants as lexed
use Rattle.rmt_sql_tokens.specs.declared.token.Lexeme.{Lexeme}
use Rattle.rmt_sql_tokens.specs.declared.cursor.Cursor.{Cursor}
use Rattle.rmt_sql_tokens.specs.declared.context.Context.{Context}
use Rattle.rmt_sql_tokens.specs.declared.quoted.Within.TheVariants.{Inside}
use Rattle.rmt_sql_tokens.specs.Classes.{Class, next_among}
use Rattle.rmt_sql_tokens.specs.Exact.{one}
use Rattle.rmt_sql_tokens.specs.Singles.{of_class}
use Rattle.rmt_sql_tokens.specs.Tokens.{Token, Word, Number, Symbol, Data, Semicolon, Bad, Spelled, Spot, spot, spots, scan, text_from, text_token}

-- how many bytes spell the text
abbrev pub text_spelling : Option Spelled → Option ℕ
text_spelling None = None
text_spelling (Some text) = Some text.spelling

-- the text's bytes
abbrev pub text_bytes : Option Spelled → Option (List ℕ)
text_bytes None = None
text_bytes (Some text) = Some text.bytes

-- a token without where its bytes lie in memory
abbrev pub token_of : Lexed → Token
token_of (lexed.Word text) = Word text.now
token_of (lexed.Number n) = Number n
token_of (lexed.Text bytes) = text_token (text_from Inside bytes.now)
token_of (lexed.Symbol kind) = Symbol kind
token_of (lexed.Data bytes) = Data bytes.now
token_of lexed.Semicolon = Semicolon
token_of lexed.Bad = Bad

-- the tokens from a place on
abbrev pub tokens : Cursor → List Spot
tokens at = spots at.context at.bytes.now

-- the lexeme is the first of the tokens, and its rest has the others
abbrev pub IsFirstToken : List Spot → Lexeme → Type 0
IsFirstToken ts l = ts ≡ spot (token_of l.token) l.left ∷ tokens l.rest

-- the first token, or none where none is left
abbrev pub IsNext : List Spot → Option Lexeme → Type 0
IsNext ts found = MatchOption found (ts ≡ []) (IsFirstToken ts)

-- what comes after a token of the class, where one comes next
abbrev pub Skips : Class → List Spot → Option Cursor → Type 0
Skips c ts found = MatchOption found (next_among (c ∷ []) ts ≡ false) (λ rest. (next_among (c ∷ []) ts ≡ true) × (one (of_class c) ts ≡ Ok (tt, tokens rest)))

-- a token begins with the first byte
abbrev pub BeginsToken : Context → List ℕ → Type 0
BeginsToken context [] = Unit {0}
BeginsToken context (b ∷ bs) = (scan context b bs).is_token ≡ true
