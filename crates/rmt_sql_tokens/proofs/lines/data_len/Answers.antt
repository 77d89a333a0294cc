use Rattle.std.proofs.Common.{rules, ◌≡◌, ◌∙◌, ◌+◌, ◌∷◌, List, ℕ, false, drop, length, sym, ap, subst}
use Rattle.memchr.specs.Find.{is_byte, places}
use Rattle.rmt_values.specs.Rows.{AllBelow}
use Rattle.rmt_sql_tokens.specs.Tokens.{ends_data}
use Rattle.rmt_sql_tokens.proofs.DataEnds.{data-ends, ends-below, ends-next, first_end}
use Rattle.rmt_sql_tokens.proofs.lines.data_len.Goals as goal

pub lines-init : goal.lines-init
lines-init c =
    let are : places (is_byte 10) c.args.bytes.now ≡ c.into_iter-end-iterator.result = search rules in (
      data-ends c.args.bytes.now (search rules) ∙ ap (first_end c.args.bytes.now) are,
      subst (AllBelow (length c.args.bytes.now)) are (ends-below c.args.bytes.now),
    )

pub lines-preserved : goal.lines-preserved
lines-preserved c =
    let first : c.lines.end-iterator ≡ c.in-Some.end ∷ c.next.new.self = search rules in
    let over : ends_data (drop (c.in-Some.end + 1) c.args.bytes.now) ≡ false = search rules in
    let later = ends-next c.args.bytes.now c.lines.end-iterator c.in-Some.end c.next.new.self first over c.lines.invariant.1 in
    (c.lines.invariant.0 ∙ later.0, later.1)
