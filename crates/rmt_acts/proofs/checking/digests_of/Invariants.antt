use Rattle.std.proofs.Common.{◌≡◌, map, take}
use Rattle.rmt_acts.specs.Checking.{digest_in}
use Rattle.rmt_acts.proofs.checking.digests_of.Given as goal

abbrev pub invariant-parts : goal.invariant-parts
invariant-parts l = l.digests.items ≡ map (λ part. (part.name, digest_in l.schema part)) (take l.part-index l.parts)
