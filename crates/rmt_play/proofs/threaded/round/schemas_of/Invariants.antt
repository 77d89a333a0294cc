use Rattle.std.proofs.Common.{◌≡◌, map, take}
use Rattle.std.specs.Arc.{arc_value}
use Rattle.rmt_play.proofs.threaded.round.schemas_of.Given as goal

abbrev pub invariant-states : goal.invariant-states
invariant-states l = map arc_value l.schemas.items ≡ map (λ s. s.tree.schema) (take l.state-index l.states)
