use Rattle.std.proofs.Common.{◌<◌, arith}
use Rattle.rmt_sql_rows.proofs.Digits.{one-digit-more}
use Rattle.rmt_sql_rows.proofs.values.few_digits.Goals as goal

pub overflow_mul-size : goal.overflow_mul-size
overflow_mul-size c =
    let few : c.digits.byte-index < 19 = omega (arith, c.requires, c.digits-test.true) in
    let more = one-digit-more c.digits.byte-index c.digits.size 9 few c.digits.invariant.2 (omega arith) in
    omega (arith, more.1)

pub overflow_add-size : goal.overflow_add-size
overflow_add-size c =
    let few : c.digits.byte-index < 19 = omega (arith, c.requires, c.digits-test.true) in
    let more = one-digit-more c.digits.byte-index c.digits.size 9 few c.digits.invariant.2 (omega arith) in
    omega (arith, more.1, c.from.ensures, c.if-not-is_ascii_digit.ensures)
