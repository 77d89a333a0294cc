use Rattle.std.proofs.Common.{◌≡◌, ◌∙◌, [], ◌∷◌, ap, sym, false}
use Rattle.std.specs.Prelude.{◌==◌, ◌&&◌, not, IsErrAnd}
use Rattle.rmt_sql_tokens.specs.declared.context.Context.TheVariants.{Plain}
use Rattle.rmt_sql_tokens.specs.Tokens.{spots}
use Rattle.rmt_sql_tokens.specs.Classes.{End, next_among}
use Rattle.rmt_sql_tokens.specs.Lexing.{tokens}
use Rattle.rmt_sql_tokens.specs.Exact.{left_of}
use Rattle.rmt_sql.specs.Grammar.{statement}
use Rattle.rmt_sql.specs.Script.{passed, empty_next, tokens_at, is_first}
use Rattle.rmt_sql.proofs.Scripts.{statement_there, fails_there}
use Rattle.rmt_sql.proofs.Going.{statement_on, fails_on}
use Rattle.rmt_sql.proofs.StatementLimits.{read_keeps}
use Rattle.rmt_sql.proofs.LaneSizes.{lanes_hold}
use Rattle.rmt_sql.proofs.script.next_statement.Goals as goal

pub returns-in-Ok-clause-reads : goal.returns-in-Ok-clause-reads
returns-in-Ok-clause-reads c =
    let first : c.is_first-first.result ≡ is_first c.args.script.now c.args.at = c.is_first-first.ensures ∙ ap (λ l. (c.args.at == 0) && not (empty_next (spots Plain l))) c.split_at.ensures.back in
    let place : tokens c.after_empty-place.result ≡ passed (tokens_at c.args.script.now c.args.at) = c.after_empty-place.ensures ∙ ap (λ l. passed (spots Plain l)) c.split_at.ensures.back in
    statement_there c.args.script.now c.args.at c.is_first-first.result (tokens c.after_empty-place.result) c.in-Ok.statement c.in-Ok.left c.saturating_sub-start.result c.saturating_sub-end.result (tokens c.in-Ok.field-0-2)
    first place c.in-Ok.ensures (rw (← c.left.ensures.left) c.saturating_sub-start.ensures) c.saturating_sub-end.ensures

pub returns-in-Ok-clause-advances : goal.returns-in-Ok-clause-advances
returns-in-Ok-clause-advances c =
    let place : tokens c.after_empty-place.result ≡ passed (tokens_at c.args.script.now c.args.at) = c.after_empty-place.ensures ∙ ap (λ l. passed (spots Plain l)) c.split_at.ensures.back in
    let more : next_among (End ∷ []) (passed (tokens_at c.args.script.now c.args.at)) ≡ false = ap (λ l. next_among (End ∷ []) l) (sym place) ∙ (sym c.is_end_next.ensures ∙ c.if-is_end_next.false) in
    statement_on c.args.script.now c.args.at c.in-Ok.statement c.saturating_sub-start.result c.saturating_sub-end.result more (returns-in-Ok-clause-reads c)

pub returns-in-Ok-clause-limits : goal.returns-in-Ok-clause-limits
returns-in-Ok-clause-limits c =
    read_keeps c.args.script.now c.args.at c.in-Ok.statement c.saturating_sub-start.result c.saturating_sub-end.result (returns-in-Ok-clause-reads c)

pub returns-in-Ok-clause-lanes : goal.returns-in-Ok-clause-lanes
returns-in-Ok-clause-lanes c =
    lanes_hold c.args.script.now c.args.at c.in-Ok.statement c.saturating_sub-start.result c.saturating_sub-end.result (returns-in-Ok-clause-reads c)

pub returns-in-Err-Fault-clause-reads : goal.returns-in-Err-Fault-clause-reads
returns-in-Err-Fault-clause-reads c =
    let first : c.is_first-first.result ≡ is_first c.args.script.now c.args.at = c.is_first-first.ensures ∙ ap (λ l. (c.args.at == 0) && not (empty_next (spots Plain l))) c.split_at.ensures.back in
    let place : tokens c.after_empty-place.result ≡ passed (tokens_at c.args.script.now c.args.at) = c.after_empty-place.ensures ∙ ap (λ l. passed (spots Plain l)) c.split_at.ensures.back in
    let more : next_among (End ∷ []) (passed (tokens_at c.args.script.now c.args.at)) ≡ false = ap (λ l. next_among (End ∷ []) l) (sym place) ∙ (sym c.is_end_next.ensures ∙ c.if-is_end_next.false) in
    let failed : IsErrAnd ((statement c.is_first-first.result).read (tokens c.after_empty-place.result)) (λ rest. c.in-Err-Fault.left ≡ left_of rest) = rw c.in-Err-Fault.field-0-is at c.in-Err-Fault.ensures in
    fails_there c.args.script.now c.args.at c.is_first-first.result (tokens c.after_empty-place.result) c.in-Err-Fault.left c.saturating_sub-offset.result c.end_after-end.result first place more failed c.saturating_sub-offset.ensures c.end_after-end.ensures

pub returns-in-Err-Fault-clause-advances : goal.returns-in-Err-Fault-clause-advances
returns-in-Err-Fault-clause-advances c =
    let place : tokens c.after_empty-place.result ≡ passed (tokens_at c.args.script.now c.args.at) = c.after_empty-place.ensures ∙ ap (λ l. passed (spots Plain l)) c.split_at.ensures.back in
    let more : next_among (End ∷ []) (passed (tokens_at c.args.script.now c.args.at)) ≡ false = ap (λ l. next_among (End ∷ []) l) (sym place) ∙ (sym c.is_end_next.ensures ∙ c.if-is_end_next.false) in
    fails_on c.args.script.now c.args.at c.saturating_sub-offset.result c.end_after-end.result more (returns-in-Err-Fault-clause-reads c)
