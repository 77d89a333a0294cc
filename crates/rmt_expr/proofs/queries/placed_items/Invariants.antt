use Rattle.std.proofs.Common.{◌≡◌, length}
use Rattle.rmt_expr.specs.Queries.{unknown_in_items}
use Rattle.rmt_expr.proofs.Progress.{ItemsGoOn}
use Rattle.rmt_expr.proofs.queries.placed_items.Given as goal

abbrev pub invariant-items : goal.invariant-items
invariant-items l =
    ItemsGoOn l.schema l.fn.items l.rest l.placed.items × (unknown_in_items l.schema l.fn.items ≡ unknown_in_items l.schema l.rest)

abbrev pub decreases-items : goal.decreases-items
decreases-items l = length l.rest
