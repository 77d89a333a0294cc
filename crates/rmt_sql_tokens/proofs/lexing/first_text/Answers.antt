use Rattle.std.proofs.Common.{◌≡◌, ℕ, Option, Some, None, refl, drop}
use Rattle.rmt_sql_tokens.specs.declared.quoted.Within.TheVariants.{Inside}
use Rattle.rmt_sql_tokens.specs.Tokens.{Spelled, text_from, spelling_or}
use Rattle.rmt_sql_tokens.specs.Lexing.{text_spelling}
use Rattle.rmt_sql_tokens.proofs.Lexemes.{text_scanned}
use Rattle.rmt_sql_tokens.proofs.lexing.first_text.Goals as goal

some_is : (o : Option Spelled) (n : ℕ) → Some n ≡ text_spelling o → n ≡ spelling_or o
some_is None n h = absurd cc
some_is (Some text) n h = cc

none_is : (o : Option Spelled) → None ≡ text_spelling o → o ≡ None
none_is None h = refl
none_is (Some text) h = absurd cc

pub returns-in-Some : goal.returns-in-Some
returns-in-Some c =
    let n = some_is (text_from Inside c.split_at.result.1.now) c.in-Some.len c.in-Some.ensures.len in
    rw (c.split_at-in-Some.ensures.back, n, c.split_at.ensures.back) (text_scanned c.args.at.context c.args.at.bytes.now c.requires.csv c.requires.some c.requires.begins)

pub returns-in-None : goal.returns-in-None
returns-in-None c =
    let n = none_is (text_from Inside c.split_at.result.1.now) c.in-None.ensures.len in
    let none : text_from Inside (drop 1 c.args.at.bytes.now) ≡ None = rw c.split_at.ensures.back at n in
    rw c.split_at.ensures.back (rw none at (text_scanned c.args.at.context c.args.at.bytes.now c.requires.csv c.requires.some c.requires.begins))
