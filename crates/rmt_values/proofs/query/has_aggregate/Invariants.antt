use Rattle.std.proofs.Common.{◌≡◌, drop}
use Rattle.rmt_values.specs.Aggregates.{is_aggregate, has_aggregate}
use Rattle.rmt_values.proofs.query.has_aggregate.Given as goal

abbrev pub invariant-items : goal.invariant-items
invariant-items l = has_aggregate is_aggregate l.items ≡ has_aggregate is_aggregate (drop l.item-index l.items)
