use Rattle.std.proofs.Common.{sym, ◌∙◌}
use Rattle.rmt_sql_tokens.specs.Lexing.{tokens}
use Rattle.rmt_sql_tokens.proofs.Falling.{spots_falling}
use Rattle.rmt_sql_acts.proofs.IntoReads.{one_reading, further_left}
use Rattle.rmt_sql_acts.proofs.inserts.into_either.Goals as goal

pub returns-then-not-is_keyword_next : goal.returns-then-not-is_keyword_next
returns-then-not-is_keyword_next c = rw (one_reading c.args.may_set (tokens c.args.at) (sym c.is_keyword_next.ensures ∙ c.if-not-is_keyword_next.true)) c.into.ensures

pub returns-in-Err-Fault-into : goal.returns-in-Err-Fault-into
returns-in-Err-Fault-into c =
    let one = rw c.in-Err-Fault.field-0-is at c.in-Err-Fault.ensures in
    let two = rw c.in-Err-Fault-into.field-0-is at c.in-Err-Fault-into.ensures in
    further_left c.args.may_set (tokens c.args.at) c.in-Err-Fault.left c.in-Err-Fault-into.other c.min.result (spots_falling 0 c.args.at.context c.args.at.bytes.now).0 one two c.min.ensures
