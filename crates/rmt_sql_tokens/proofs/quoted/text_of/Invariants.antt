use Rattle.std.proofs.Common.{◌≡◌, drop}
use Rattle.rmt_sql_tokens.specs.declared.quoted.Within.TheVariants.{Inside}
use Rattle.rmt_sql_tokens.specs.Tokens.{text_from}
use Rattle.rmt_sql_tokens.specs.Lexing.{text_bytes}
use Rattle.rmt_sql_tokens.proofs.Texts.{ahead}
use Rattle.rmt_sql_tokens.proofs.quoted.text_of.Given as goal

abbrev pub invariant-bytes : goal.invariant-bytes
invariant-bytes l = text_bytes (text_from Inside l.fn.bytes) ≡ text_bytes (ahead l.text.items 0 (text_from l.within (drop l.byte-index l.fn.bytes)))
