use Rattle.std.proofs.Common.{◌≡◌, drop}
use Rattle.rmt_query.specs.Distinct.{tuple_cmp_at}
use Rattle.rmt_query.proofs.tuple.compare_at.Given as goal

abbrev pub invariant-places : goal.invariant-places
invariant-places l = tuple_cmp_at l.places l.left l.right ≡ tuple_cmp_at (drop l.place-index l.places) l.left l.right
