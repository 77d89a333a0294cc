use Rattle.std.proofs.Common.{arith}
use Rattle.rmt_expr.proofs.QueryLemmas.{all_names}
use Rattle.rmt_expr.proofs.queries.places.Goals as goal

pub returns-clause-ok : goal.returns-clause-ok
returns-clause-ok c = all_names _ _ _ _ c.names.invariant.0 (omega arith)
