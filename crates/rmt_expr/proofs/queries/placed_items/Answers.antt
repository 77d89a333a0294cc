use Rattle.std.proofs.Common.{arith}
use Rattle.rmt_expr.proofs.QueryLemmas.{all_items}
use Rattle.rmt_expr.proofs.queries.placed_items.Goals as goal

pub returns-clause-ok : goal.returns-clause-ok
returns-clause-ok c = all_items _ _ _ _ c.items.invariant.0 (omega arith)
