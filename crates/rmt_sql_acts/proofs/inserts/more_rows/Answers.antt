use Rattle.std.proofs.Common.{◌∙◌, sym}
use Rattle.std.proofs.lemmas.Result.{err_from_is_err_and}
use Rattle.rmt_sql_tokens.specs.Lexing.{tokens}
use Rattle.rmt_sql_tokens.specs.Exact.{always}
use Rattle.rmt_sql_tokens.proofs.Loops.{left_stop, left_fails, left_on, takes_some}
use Rattle.rmt_sql_acts.specs.Acts.{row_firsts, further_row}
use Rattle.rmt_sql_acts.proofs.InsertLaws.{no_more, further_row_law}
use Rattle.rmt_sql_acts.proofs.inserts.more_rows.Goals as goal

pub returns-then-not-is_row_next : goal.returns-then-not-is_row_next
returns-then-not-is_row_next c = left_stop always row_firsts (λ all. (further_row all).read) c.rows.all.items (tokens c.rows.rest) _ c.rows.invariant (sym c.is_row_next.ensures ∙ c.if-not-is_row_next.true)

pub returns-in_err-rest : goal.returns-in_err-rest
returns-in_err-rest c =
    let p = err_from_is_err_and c.from_residual.result c.from_residual.ensures.1 in
    rw (p.1, p.2) (left_fails always row_firsts (λ all. (further_row all).read) c.rows.all.items (tokens c.rows.rest) _ c.in_err-rest.field-0.0 c.rows.invariant (sym c.is_row_next.ensures ∙ c.if-not-is_row_next.false) c.in_err-rest.ensures)

pub rows-smaller : goal.rows-smaller
rows-smaller c = takes_some (further_row c.rows.all.items) no_more row_firsts (further_row_law c.rows.all.items) (tokens c.rows.rest) c.further_row.new.all.items (tokens c.in_ok-rest.rest) c.in_ok-rest.ensures

pub rows-preserved : goal.rows-preserved
rows-preserved c =
    let less = takes_some (further_row c.rows.all.items) no_more row_firsts (further_row_law c.rows.all.items) (tokens c.rows.rest) c.further_row.new.all.items (tokens c.in_ok-rest.rest) c.in_ok-rest.ensures in
    left_on always row_firsts (λ all. (further_row all).read) c.rows.all.items (tokens c.rows.rest) c.further_row.new.all.items (tokens c.in_ok-rest.rest) _ c.rows.invariant less (sym c.is_row_next.ensures ∙ c.if-not-is_row_next.false) c.in_ok-rest.ensures
