use Rattle.rmt_play.specs.PlayerSteps.{IsFirst}
use Rattle.rmt_play.proofs.player.place_of.Given as goal

abbrev pub invariant-names : goal.invariant-names
invariant-names l = IsFirst l.names l.name l.i
