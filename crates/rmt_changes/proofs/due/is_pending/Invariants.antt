use Rattle.std.proofs.Common.{◌≡◌, drop, nat_lt}
use Rattle.rmt_changes.specs.Changes.{any_mutates}
use Rattle.rmt_changes.proofs.due.is_pending.Given as goal

abbrev pub invariant-tokens : goal.invariant-tokens
invariant-tokens l = any_mutates l.partition (nat_lt l.low) l.tokens ≡ any_mutates l.partition (nat_lt l.low) (drop l.token-index l.tokens)
