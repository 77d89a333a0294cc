use Rattle.std.proofs.Common.{◌≡◌, drop}
use Rattle.rmt_expr.specs.Mutations.{among}
use Rattle.rmt_expr.proofs.mutations.has_place.Given as goal

abbrev pub invariant-places : goal.invariant-places
invariant-places l = among l.places l.at ≡ among (drop l.place-index l.places) l.at
