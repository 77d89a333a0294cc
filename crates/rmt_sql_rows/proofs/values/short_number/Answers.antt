use Rattle.std.proofs.Common.{◌≡◌, ◌≤◌, ◌++◌, [], ◌∷◌, length, arith}
use Rattle.rmt_sql_rows.proofs.Digits.{with-last}
use Rattle.rmt_sql_rows.proofs.values.short_number.Goals as goal

pub returns : goal.returns
returns c =
    let first = c.in_ok-last.first.now in
    let last = c.in_ok-last.last.now in
    let parts : c.args.bytes.now ≡ first ++ last ∷ [] = grind (arith, c.in_ok-last.ensures.cases) in
    let few : length first ≤ 38 = grind (arith, c.if-first-gt-SHORT_DIGITS.false) in
    let (digits, size) = c.in_ok-few_digits.ensures in
    with-last c.with_digit.result c.args.bytes.now first last c.in_ok-few_digits.field-0 parts few digits size c.with_digit.ensures
