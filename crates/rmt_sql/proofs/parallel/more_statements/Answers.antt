use Rattle.std.proofs.Common.{◌∙◌, sym}
use Rattle.std.proofs.lemmas.Result.{err_from_is_err_and}
use Rattle.rmt_sql_tokens.specs.Lexing.{tokens}
use Rattle.rmt_sql_tokens.specs.Exact.{always, never, item}
use Rattle.rmt_sql_tokens.proofs.Laws.{on_last, law_item}
use Rattle.rmt_sql_tokens.proofs.Loops.{left_stop, left_fails, left_on, takes_some}
use Rattle.rmt_sql.specs.Grammar.{lane_firsts, lane_statement}
use Rattle.rmt_sql.proofs.StatementLaws.{lane_statement_law}
use Rattle.rmt_sql.proofs.parallel.more_statements.Goals as goal

pub returns-then-not-is_statement_next : goal.returns-then-not-is_statement_next
returns-then-not-is_statement_next c =
    left_stop always lane_firsts (λ all. (item lane_statement all).read) c.statements.all.items (tokens c.statements.rest) _ c.statements.invariant (sym c.is_statement_next.ensures ∙ c.if-not-is_statement_next.true)

pub returns-in_err-rest : goal.returns-in_err-rest
returns-in_err-rest c =
    let p = err_from_is_err_and c.from_residual.result c.from_residual.ensures.1 in
    rw (p.1, p.2) (left_fails always lane_firsts (λ all. (item lane_statement all).read) c.statements.all.items (tokens c.statements.rest) _ c.in_err-rest.field-0.0 c.statements.invariant
    (sym c.is_statement_next.ensures ∙ c.if-not-is_statement_next.false) c.in_err-rest.ensures)

pub statements-smaller : goal.statements-smaller
statements-smaller c = takes_some (item lane_statement c.statements.all.items) (on_last never) lane_firsts (law_item lane_statement c.statements.all.items never lane_firsts lane_statement_law)
    (tokens c.statements.rest) c.item_statement.new.all.items (tokens c.in_ok-rest.rest) c.in_ok-rest.ensures

pub statements-preserved : goal.statements-preserved
statements-preserved c =
    let less = takes_some (item lane_statement c.statements.all.items) (on_last never) lane_firsts (law_item lane_statement c.statements.all.items never lane_firsts lane_statement_law)
    (tokens c.statements.rest) c.item_statement.new.all.items (tokens c.in_ok-rest.rest) c.in_ok-rest.ensures in
    left_on always lane_firsts (λ all. (item lane_statement all).read) c.statements.all.items (tokens c.statements.rest) c.item_statement.new.all.items (tokens c.in_ok-rest.rest) _ c.statements.invariant less
    (sym c.is_statement_next.ensures ∙ c.if-not-is_statement_next.false) c.in_ok-rest.ensures
