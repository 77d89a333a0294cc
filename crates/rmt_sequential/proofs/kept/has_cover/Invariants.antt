use Rattle.std.proofs.Common.{◌≡◌, false, take}
use Rattle.std.specs.List.{list_any}
use Rattle.rmt_names.specs.Names.{covers}
use Rattle.rmt_sequential.proofs.kept.has_cover.Given as goal

abbrev pub invariant-parts : goal.invariant-parts
invariant-parts l = list_any (λ p. covers p.name l.part) (take l.one-index l.parts) ≡ false
