use Rattle.std.proofs.Common.{arith}
use Rattle.rmt_paths.proofs.OrderLemmas.{are_siblings-child}
use Rattle.rmt_paths.proofs.place.Place.is_sibling.Goals as goal

pub returns-in-Some-Some : goal.returns-in-Some-Some
returns-in-Some-Some c =
    let tie = are_siblings-child c.in-Some-Some.above.now c.in-Some-Some.others.now c.in-Some-Some.field-0-0-0.now c.in-Some-Some.field-0-0-1.now in
    grind (arith, tie, c.in-Some-Some.ensures.cases, c.in-Some-Some.ensures'.cases)
