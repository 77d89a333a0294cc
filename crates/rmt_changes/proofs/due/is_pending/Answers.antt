use Rattle.std.proofs.Common.{◌≡◌, ◌∙◌, false, sym, ap, nat_lt}
use Rattle.rmt_changes.specs.Changes.{mutates}
use Rattle.rmt_changes.proofs.DueLemmas.{any-next, any-end, none-due}
use Rattle.rmt_changes.proofs.due.is_pending.Goals as goal

pub tokens-preserved : goal.tokens-preserved
tokens-preserved c =
    let none : mutates c.args.partition (nat_lt c.args.low) c.token-item.result.value ≡ false = ap (mutates c.args.partition (nat_lt c.args.low)) (sym c.value.ensures) ∙ (sym c.is_due.ensures ∙ c.if-is_due.false) in
    c.tokens.invariant ∙ any-next c.args.partition (nat_lt c.args.low) c.args.tokens.now c.tokens.token-index c.token-item.result c.token-item.is c.tokens-test.true none

pub returns-clause-exact : goal.returns-clause-exact
returns-clause-exact c = sym (c.tokens.invariant ∙ any-end c.args.partition (nat_lt c.args.low) c.args.tokens.now c.tokens.token-index c.tokens-test.false)

pub returns-clause-none : goal.returns-clause-none
returns-clause-none c = λ f row.
    none-due c.args.partition (nat_lt c.args.low) c.args.tokens.now row (c.tokens.invariant ∙ any-end c.args.partition (nat_lt c.args.low) c.args.tokens.now c.tokens.token-index c.tokens-test.false)
