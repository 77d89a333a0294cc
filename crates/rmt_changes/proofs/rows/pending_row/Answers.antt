use Rattle.std.proofs.Common.{◌∙◌, sym, ap}
use Rattle.rmt_entries.specs.declared.entry.Entry.{Entry}
use Rattle.rmt_changes.specs.Changes.{applied_by}
use Rattle.rmt_changes.proofs.TokenOrder.{forward, forward-next, forward-none, forward-end}
use Rattle.rmt_changes.proofs.rows.pending_row.Goals as goal

pub returns-in_default : goal.returns-in_default
returns-in_default c =
    forward-none c.args.due.now c.tokens.token-index c.token-item.result c.tokens.row c.args.row c.token-item.is c.tokens-test.true
    (sym c.in_default.is ∙ (c.in_ok-new.ensures ∙ ap (λ (e : Entry). applied_by e c.tokens.row) c.value.ensures)) c.tokens.invariant

pub returns : goal.returns
returns c = forward-end c.args.due.now c.tokens.token-index c.tokens.row c.args.row c.tokens-test.false c.tokens.invariant

pub tokens-preserved : goal.tokens-preserved
tokens-preserved c =
    forward-next c.args.due.now c.tokens.token-index c.token-item.result c.tokens.row c.in-Some.new (forward c.args.due.now c.args.row) c.token-item.is c.tokens-test.true
    (sym c.in-Some.is ∙ (c.in_ok-new.ensures ∙ ap (λ (e : Entry). applied_by e c.tokens.row) c.value.ensures)) c.tokens.invariant
