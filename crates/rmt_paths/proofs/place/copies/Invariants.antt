use Rattle.std.proofs.Common.{◌≡◌, take}
use Rattle.rmt_paths.proofs.place.copies.Given as goal

abbrev pub invariant-names : goal.invariant-names
invariant-names l = l.others.items ≡ take l.name-index l.names
