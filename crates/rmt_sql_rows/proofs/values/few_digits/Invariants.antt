use Rattle.std.proofs.Common.{◌≡◌, ◌<◌, ◌^◌, take}
use Rattle.rmt_sql_tokens.specs.Tokens.{value_of}
use Rattle.rmt_sql_rows.proofs.Digits.{DigitsTo}
use Rattle.rmt_sql_rows.proofs.values.few_digits.Given as goal

abbrev pub invariant-digits : goal.invariant-digits
invariant-digits l =
    DigitsTo l.bytes l.byte-index
    × (l.size ≡ value_of (take l.byte-index l.bytes))
    × (l.size < 10 ^ l.byte-index)
