use Rattle.std.proofs.Common.{◌≡◌, filter, take}
use Rattle.rmt_sequential.proofs.KeptParts.{is_kept}
use Rattle.rmt_sequential.proofs.kept.without.Given as goal

abbrev pub invariant-parts : goal.invariant-parts
invariant-parts l = l.kept.items ≡ filter (is_kept l.part) (take l.one-index l.parts)
