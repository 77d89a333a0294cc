use Rattle.std.proofs.Common.{◌≡◌, take}
use Rattle.rmt_history.proofs.mutation_list.copied.Given as goal

abbrev pub invariant-tokens : goal.invariant-tokens
invariant-tokens l = l.all.items ≡ take l.token-index l.tokens
