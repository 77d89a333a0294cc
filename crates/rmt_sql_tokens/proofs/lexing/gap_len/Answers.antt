use Rattle.std.proofs.Common.{arith, sym, ◌∙◌}
use Rattle.rmt_sql_tokens.proofs.Gaps.{spots_blank, spots_white, spots_comment, some_comment, blank_none, white_none}
use Rattle.rmt_sql_tokens.proofs.lexing.gap_len.Goals as goal

pub returns-in-Csv-clause-same : goal.returns-in-Csv-clause-same
returns-in-Csv-clause-same c = rw (c.in-Csv.is, c.blank_len.ensures.len) (spots_blank c.args.bytes.now)

pub returns-in-Csv-clause-none : goal.returns-in-Csv-clause-none
returns-in-Csv-clause-none c = λ none. rw c.in-Csv.is (blank_none c.args.bytes.now (sym c.blank_len.ensures.len ∙ none))

pub returns-then-begins_comment : goal.returns-then-begins_comment
returns-then-begins_comment c =
    let begins = sym c.begins_comment.ensures ∙ c.if-begins_comment.true in
    let some = some_comment c.args.bytes.now begins in
    record {
      same = rw c.line_len.ensures.len (spots_comment c.args.context c.args.bytes.now c.in_default.not-Csv begins);
      none = λ none. absurd (omega (arith, some, none, c.line_len.ensures.len));
      bound = c.line_len.ensures.bound;
    }

pub returns-else-begins_comment : goal.returns-else-begins_comment
returns-else-begins_comment c = record {
  same = rw c.white_len.ensures.len (spots_white c.args.context c.args.bytes.now c.in_default.not-Csv);
  none = λ none. white_none c.args.context c.args.bytes.now c.in_default.not-Csv (sym c.white_len.ensures.len ∙ none) (sym c.begins_comment.ensures ∙ c.if-begins_comment.false);
  bound = c.white_len.ensures.bound;
}
