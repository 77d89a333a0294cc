-- The tokens of a script, each with how many bytes are left from its first one on.
-- ClickHouse documentation, SQL reference, "Syntax": "Spaces", "Comments", "Keywords", "Identifiers", "Literals"; "INSERT
-- INTO", "FORMAT". Lengths, escapes and the line that ends data are this program's own.
use Rattle.std.specs.Prelude.{ℕ, zero, suc, ◌+◌, ◌*◌, ◌-◌, ◌^◌, ◌==◌, ◌||◌, ◌&&◌, not, nat_lt, nat_le, List, [], ◌∷◌, length, take, map, fold, codes, Bool, true, false, if◌then◌else◌, Option, Some, None}
use Rattle.std.specs.List.{prefix_len}
use Rattle.std.specs.Char.{is_ascii_alphabetic, is_ascii_alphanumeric, is_ascii_digit, to_ascii_lowercase}
use Rattle.std.specs.Str.{bytes_eq}
use Rattle.rmt_sql_tokens.specs.declared.symbol_kind.SymbolKind.{SymbolKind}
use Rattle.rmt_sql_tokens.specs.declared.symbol_kind.SymbolKind.TheVariants as symbols
use Rattle.rmt_sql_tokens.specs.declared.context.Context.{Context}
use Rattle.rmt_sql_tokens.specs.declared.context.Context.TheVariants.{Plain, Format, Csv, Over}
use Rattle.rmt_sql_tokens.specs.declared.quoted.Within.{Within}
use Rattle.rmt_sql_tokens.specs.declared.quoted.Within.TheVariants.{Inside, Quoted, Escaped}
use Rattle.rmt_sql_tokens.specs.declared.quoted.TextStep.{TextStep}
use Rattle.rmt_sql_tokens.specs.declared.quoted.TextStep.TheVariants.{Ends, Wrong, Goes}

-- `;` ends a statement, and what comes after FORMAT CSV is data. What begins no token, or breaks a token's rule, is
-- bad. No bytes spell Beyond: it stands for what a limit beside the grammar refuses
pub data Token : Type 0 where
  Word : List ℕ → Token
  Number : ℕ → Token
  Text : List ℕ → Token
  Symbol : SymbolKind → Token
  Data : List ℕ → Token
  Semicolon : Token
  Bad : Token
  Beyond : Token

-- a token, and how many bytes there are from its first one on
pub record Spot : Type 0 where
  pub token : Token
  pub left : ℕ

-- space, tab, CR and LF
abbrev pub is_white : ℕ → Bool
is_white b = ((b == 32 || b == 9) || b == 13) || b == 10

-- space, tab and CR
abbrev pub is_blank : ℕ → Bool
is_blank b = (b == 32 || b == 9) || b == 13

-- a letter or `_`
abbrev pub begins_word : ℕ → Bool
begins_word b = is_ascii_alphabetic b || b == 95

-- a letter, a digit or `_`
abbrev pub is_word_byte : ℕ → Bool
is_word_byte b = is_ascii_alphanumeric b || b == 95

-- whether a word is this keyword, in any case of its letters
abbrev pub is_keyword : List ℕ → List ℕ → Bool
is_keyword word small = bytes_eq (map to_ascii_lowercase word) (map to_ascii_lowercase small)

-- the value of decimal digits
abbrev pub value_of : List ℕ → ℕ
value_of digits = fold (λ n d. n * 10 + (d - 48)) 0 digits

-- a word of at most 255 bytes
abbrev pub word_token : List ℕ → Token
word_token text = if nat_le (length text) 255 then Word text else Bad

-- a number of at most 39 digits, below 2^128
abbrev pub number_token : List ℕ → Token
number_token digits = if nat_le (length digits) 39 && nat_lt (value_of digits) (2 ^ 128) then Number (value_of digits) else Bad

-- ---- texts

-- the byte that a letter after a backslash stands for
abbrev pub escaped : ℕ → Option ℕ
escaped b =
    if b == 39 then Some 39 else (if b == 92 then Some 92 else (if b == 110 then Some 10 else
    (if b == 114 then Some 13 else (if b == 116 then Some 9 else (if b == 48 then Some 0 else None)))))

-- a text goes on with the byte that is escaped, where there is one
abbrev pub goes_with : Option ℕ → TextStep
goes_with None = Wrong
goes_with (Some byte) = Goes Inside (Some byte)

-- what the next byte is to a text: two quotes are one, a lone one ends it, a backslash escapes
abbrev pub text_step : Within → ℕ → TextStep
text_step Inside b = if b == 39 then Goes Quoted None else (if b == 92 then Goes Escaped None else Goes Inside (Some b))
text_step Quoted b = if b == 39 then Goes Inside (Some 39) else Ends
text_step Escaped b = goes_with (escaped b)

-- a text's bytes, and how many bytes spell them, the closing quote included
pub record Spelled : Type 0 where
  pub bytes : List ℕ
  pub spelling : ℕ

-- the bytes with one more at the start, where there is one
abbrev pub with_byte : Option ℕ → List ℕ → List ℕ
with_byte None bytes = bytes
with_byte (Some byte) bytes = byte ∷ bytes

-- the text with one more byte of its spelling at the start, and what that stands for
abbrev pub longer : Option ℕ → Option Spelled → Option Spelled
longer byte None = None
longer byte (Some text) = Some (record { bytes = with_byte byte text.bytes; spelling = suc text.spelling })

-- where the bytes end a text is over only after its closing quote
abbrev pub text_over : Within → Option Spelled
text_over Quoted = Some (record { bytes = []; spelling = 0 })
text_over _ = None

-- what a step makes of a text
abbrev pub text_after : TextStep → (Within → Option Spelled) → Option Spelled
text_after Ends rest = Some (record { bytes = []; spelling = 0 })
text_after Wrong rest = None
text_after (Goes within byte) rest = longer byte (rest within)

-- the text that these bytes go on with, if they do
abbrev pub text_from : Within → List ℕ → Option Spelled
text_from within [] = text_over within
text_from within (b ∷ bs) = text_after (text_step within b) (λ w. text_from w bs)

-- the token of a quote, with the bytes after it
abbrev pub text_token : Option Spelled → Token
text_token None = Bad
text_token (Some text) = Text text.bytes

-- how many bytes spell the text, and none where there is none
abbrev pub spelling_or : Option Spelled → ℕ
spelling_or None = 0
spelling_or (Some text) = text.spelling

-- ---- symbols

-- a symbol, and how many bytes it has after its first
pub record Sign : Type 0 where
  pub token : Token
  pub more : ℕ

-- a symbol with so many bytes after its first
abbrev pub sign : SymbolKind → ℕ → Sign
sign kind more = record { token = Symbol kind; more = more }

-- this byte comes next
abbrev pub next_is_byte : ℕ → List ℕ → Bool
next_is_byte b [] = false
next_is_byte b (c ∷ cs) = c == b

-- ( ) , = @ + - * ; and != <> < <= > >=
abbrev pub sign_of : ℕ → List ℕ → Sign
sign_of b bs =
    if b == 40 then sign symbols.Open 0 else (if b == 41 then sign symbols.Close 0 else (if b == 44 then sign symbols.Comma 0 else
    (if b == 61 then sign symbols.Equal 0 else (if b == 64 then sign symbols.At 0 else (if b == 43 then sign symbols.Plus 0 else
    (if b == 45 then sign symbols.Minus 0 else (if b == 42 then sign symbols.Star 0 else
    (if b == 60 then (if next_is_byte 62 bs then sign symbols.Differs 1 else (if next_is_byte 61 bs then sign symbols.AtMost 1 else sign symbols.Less 0)) else
    (if b == 62 then (if next_is_byte 61 bs then sign symbols.AtLeast 1 else sign symbols.Greater 0) else
    (if b == 33 && next_is_byte 61 bs then sign symbols.Differs 1 else
    (if b == 59 then record { token = Semicolon; more = 0 } else record { token = Bad; more = 0 })))))))))))

-- ---- data

-- the line ends here
abbrev pub line_over : List ℕ → Bool
line_over [] = true
line_over (b ∷ bs) = b == 10

-- the line ends here, a CR before its end allowed
abbrev pub ends_line : List ℕ → Bool
ends_line [] = true
ends_line (b ∷ bs) = b == 10 || (b == 13 && line_over bs)

-- a line that is exactly `;`
abbrev pub ends_data : List ℕ → Bool
ends_data [] = false
ends_data (b ∷ bs) = b == 59 && ends_line bs

-- how many bytes of data there are, from a line's start or from within a line
abbrev pub data_len : Bool → List ℕ → ℕ
data_len starts [] = 0
data_len starts (b ∷ bs) = if starts && ends_data (b ∷ bs) then 0 else suc (data_len (b == 10) bs)

-- ---- tokens

-- what is at the start: white space, a comment, or a token; so many bytes of it after the first; and what comes before
-- the next token
pub record Scanned : Type 0 where
  pub is_token : Bool
  pub token : Token
  pub more : ℕ
  pub context : Context

-- white space or a comment, with so many bytes after its first
abbrev pub gap : ℕ → Context → Scanned
gap more context = record { is_token = false; token = Bad; more = more; context = context }

-- a token, with so many bytes after its first
abbrev pub there : Token → ℕ → Context → Scanned
there token more context = record { is_token = true; token = token; more = more; context = context }

-- what comes after the word CSV: data, where FORMAT came before it
abbrev pub after_csv : Context → Context
after_csv Format = Csv
after_csv _ = Plain

-- data comes after the words FORMAT and CSV
abbrev pub after_word : Context → List ℕ → Context
after_word context word = if is_keyword word (codes "format") then Format else (if is_keyword word (codes "csv") then after_csv context else Plain)

-- `--`
abbrev pub begins_comment : List ℕ → Bool
begins_comment [] = false
begins_comment (b ∷ bs) = b == 45 && next_is_byte 45 bs

-- a byte that doesn't end a line
abbrev pub is_within : ℕ → Bool
is_within b = not (b == 10)

-- after FORMAT CSV: the rest of the line is white, and data begins with the next line
abbrev pub scan_csv : ℕ → List ℕ → Scanned
scan_csv b bs =
    if is_blank b then gap 0 Csv
    else (if b == 10 then there (Data (take (data_len true bs) bs)) (data_len true bs) Plain else there Bad 0 Plain)

-- elsewhere: white space, a comment up to its line's end, or a token, as long as it can be
abbrev pub scan_in : Context → ℕ → List ℕ → Scanned
scan_in context b bs =
    if is_white b then gap 0 context
    else (if begins_comment (b ∷ bs) then gap (prefix_len is_within bs) context
    else (if begins_word b then there (word_token (b ∷ take (prefix_len is_word_byte bs) bs)) (prefix_len is_word_byte bs) (after_word context (b ∷ take (prefix_len is_word_byte bs) bs))
    else (if is_ascii_digit b then there (number_token (b ∷ take (prefix_len is_ascii_digit bs) bs)) (prefix_len is_ascii_digit bs) Plain
    else (if b == 39 then there (text_token (text_from Inside bs)) (spelling_or (text_from Inside bs)) Plain
    else there (sign_of b bs).token (sign_of b bs).more Plain))))

-- what is at the start, in each context
unfoldable pub scan : Context → ℕ → List ℕ → Scanned
scan Csv b bs = scan_csv b bs
scan Plain b bs = scan_in Plain b bs
scan Format b bs = scan_in Format b bs
scan Over b bs = scan_in Over b bs

-- the tokens with the one at the start, where there is one
abbrev pub with_spot : Scanned → ℕ → List Spot → List Spot
with_spot prefix left rest = if prefix.is_token then record { token = prefix.token; left = left } ∷ rest else rest

-- a token with so many bytes from its first one on
abbrev pub spot : Token → ℕ → Spot
spot token left = record { token = token; left = left }

-- the end of the bytes ends the statement, as `;` does, and data before it; after that there is nothing
abbrev pub at_end : Context → List Spot
at_end Csv = spot (Data []) 0 ∷ spot Semicolon 0 ∷ []
at_end Over = []
at_end _ = spot Semicolon 0 ∷ []

-- the tokens after so many bytes
unfoldable pub spots_from : ℕ → Context → List ℕ → List Spot
spots_from n context [] = at_end context
spots_from zero context (b ∷ bs) = with_spot (scan context b bs) (suc (length bs)) (spots_from (scan context b bs).more (scan context b bs).context bs)
spots_from (suc n) context (b ∷ bs) = spots_from n context bs

-- the tokens of these bytes, of which the first comes after what the context says
abbrev pub spots : Context → List ℕ → List Spot
spots context bytes = spots_from 0 context bytes
