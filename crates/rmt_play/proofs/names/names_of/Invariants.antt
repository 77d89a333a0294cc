use Rattle.std.proofs.Common.{◌≡◌, take}
use Rattle.rmt_partset.specs.Snapshots.{names_in}
use Rattle.rmt_play.proofs.names.names_of.Given as goal

abbrev pub invariant-parts : goal.invariant-parts
invariant-parts l = l.names.items ≡ names_in (take l.part-index l.parts)
