use Rattle.std.proofs.Common.{◌∙◌, ◌<◌, length, length-append, sym, ap₂, subst, arith}
use Rattle.rmt_values.specs.declared.cell.Cell.{Cell}
use Rattle.rmt_query.specs.Cells.{joined}
use Rattle.rmt_query.specs.Totals.{IsTotal}
use Rattle.rmt_query.proofs.TotalLemmas.{over-joined}
use Rattle.rmt_query.proofs.totals.total_with.Goals as goal

pub returns-in_ok-joined-in-Some : goal.returns-in_ok-joined-in-Some
returns-in_ok-joined-in-Some c = λ before whole.
    let rows = c.args.rows.now.rows in
    let (some, is) = subst (IsTotal c.args.item before) c.in-Some.is whole in
    let more : 0 < length c.args.rows.now.rows = omega (arith, c.len.ensures.count, c.if-len-eq0.false) in (
      omega (arith, some, length-append before rows),
      c.in_ok-joined-in-Some.ensures ∙ (ap₂ (λ (a b : Cell). joined c.args.item a b) is c.in_ok-cell.ensures ∙ sym (over-joined c.args.item before rows some more)),
    )
