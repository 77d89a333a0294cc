use Rattle.std.proofs.Common.{arith, ◌+◌, ◌*◌, ◌≤◌, ◌^◌}
use Rattle.rmt_sql_tokens.proofs.Numbers.{too_large}
use Rattle.rmt_sql_tokens.proofs.digits.decimal_value.Goals as goal

pub returns-in_default : goal.returns-in_default
returns-in_default c =
    let large : 2 ^ 128 ≤ c.digits.value * 10 = omega (arith, c.in_default.ensures) in
    too_large c.args.digits.now c.digits.digit-index (2 ^ 128) c.digits-test.true (omega (arith, large, c.digits.invariant))

pub returns-in_default-checked_add : goal.returns-in_default-checked_add
returns-in_default-checked_add c =
    let tens = c.in-Some.ensures.1 in
    let digit = c.saturating_sub.ensures in
    let large : 2 ^ 128 ≤ c.in-Some.tens + c.from.result = omega (arith, c.in_default-checked_add.ensures) in
    too_large c.args.digits.now c.digits.digit-index (2 ^ 128) c.digits-test.true (omega (arith, large, tens, digit, c.from.ensures, c.digits.invariant))
