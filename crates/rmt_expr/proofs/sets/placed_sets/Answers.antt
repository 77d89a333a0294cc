use Rattle.rmt_expr.proofs.SetLemmas.{all_placed}
use Rattle.std.proofs.Common.{arith}
use Rattle.rmt_expr.proofs.sets.placed_sets.Goals as goal

pub returns-clause-ok : goal.returns-clause-ok
returns-clause-ok c = all_placed _ _ _ _ c.sets.invariant.0 (omega arith)
