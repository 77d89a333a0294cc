use Rattle.std.proofs.Common.{◌≡◌, ap, ◌∙◌, [], ◌∷◌, false, refl, Option, Some, None}
use Rattle.rmt_sql_tokens.specs.declared.token.Token.{Token as Lexed}
use Rattle.rmt_sql_tokens.specs.declared.token.Token.TheVariants as lexed
use Rattle.rmt_sql_tokens.specs.declared.quoted.Within.TheVariants.{Inside}
use Rattle.rmt_sql_tokens.specs.Tokens.{Spelled, text_from, text_token}
use Rattle.rmt_sql_tokens.specs.Classes.{Limit, is_of, next_among}
use Rattle.rmt_sql_tokens.specs.Lexing.{token_of}
use Rattle.rmt_sql_tokens.proofs.readers.left.Goals as goal

text_within : (o : Option Spelled) → is_of Limit (text_token o) ≡ false
text_within None = refl
text_within (Some text) = refl

-- no token that the code takes is beyond a limit
token_within : (t : Lexed) → is_of Limit (token_of t) ≡ false
token_within (lexed.Word text) = refl
token_within (lexed.Number n) = refl
token_within (lexed.Text bytes) = text_within (text_from Inside bytes.now)
token_within (lexed.Symbol kind) = refl
token_within (lexed.Data bytes) = refl
token_within lexed.Semicolon = refl
token_within lexed.Bad = refl

pub returns-in-Some-clause-within : goal.returns-in-Some-clause-within
returns-in-Some-clause-within c = ap (next_among (Limit ∷ [])) c.in-Some.ensures ∙ token_within c.in-Some.next.token
