use Rattle.std.proofs.Common.{◌≡◌, length}
use Rattle.rmt_expr.specs.Queries.{unknown_in_names}
use Rattle.rmt_expr.proofs.Progress.{NamesGoOn}
use Rattle.rmt_expr.proofs.queries.places.Given as goal

abbrev pub invariant-names : goal.invariant-names
invariant-names l =
    NamesGoOn l.schema l.fn.names l.rest l.placed.items × (unknown_in_names l.schema l.fn.names ≡ unknown_in_names l.schema l.rest)

abbrev pub decreases-names : goal.decreases-names
decreases-names l = length l.rest
