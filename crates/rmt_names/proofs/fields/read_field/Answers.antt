use Rattle.std.proofs.Common.{sym, arith}
use Rattle.std.proofs.lemmas.Option.{none-some}
use Rattle.rmt_names.proofs.FieldLemmas.{IsField-decimal, cut, uncut}
use Rattle.rmt_names.proofs.fields.read_field.Goals as goal

pub returns-in_err-number-clause-only : goal.returns-in_err-number-clause-only
returns-in_err-number-clause-only c n behind small is =
    absurd (uncut _ _ _ c.in_err-number.ensures.cases is (IsField-decimal n (omega arith)))

pub returns-in_err-read_small_number-clause-only :
    goal.returns-in_err-read_small_number-clause-only
returns-in_err-read_small_number-clause-only c n behind small is =
    let field = IsField-decimal n (omega arith) in
    let (number_is, _) = cut _ _ _ c.in_ok-number.number c.in_ok-number.behind c.in_ok-number.ensures.cases is field in
    absurd (none-some n (c.in_err-read_small_number.ensures.only n small (sym number_is)))

pub returns-clause-only : goal.returns-clause-only
returns-clause-only c n behind small is =
    let field = IsField-decimal n (omega arith) in
    let (number_is, behind_is) = cut _ _ _ c.in_ok-number.number c.in_ok-number.behind c.in_ok-number.ensures.cases is field in
    let read = c.in_ok-read_small_number.ensures.only n small (sym number_is) in
    (cc, behind_is)
