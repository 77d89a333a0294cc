use Rattle.std.proofs.Common.{◌≡◌, take}
use Rattle.rmt_sql_tokens.specs.Tokens.{value_of}
use Rattle.rmt_sql_tokens.proofs.digits.decimal_value.Given as goal

abbrev pub invariant-digits : goal.invariant-digits
invariant-digits l = l.value ≡ value_of (take l.digit-index l.digits)
