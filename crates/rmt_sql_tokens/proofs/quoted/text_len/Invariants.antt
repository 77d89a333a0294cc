use Rattle.std.proofs.Common.{◌≡◌, drop, []}
use Rattle.rmt_sql_tokens.specs.declared.quoted.Within.TheVariants.{Inside}
use Rattle.rmt_sql_tokens.specs.Tokens.{text_from}
use Rattle.rmt_sql_tokens.specs.Lexing.{text_spelling}
use Rattle.rmt_sql_tokens.proofs.Texts.{ahead}
use Rattle.rmt_sql_tokens.proofs.quoted.text_len.Given as goal

abbrev pub invariant-bytes : goal.invariant-bytes
invariant-bytes l = text_spelling (text_from Inside l.bytes) ≡ text_spelling (ahead [] l.i (text_from l.within (drop l.i l.bytes)))
