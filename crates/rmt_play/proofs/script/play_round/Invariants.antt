use Rattle.rmt_play.specs.PlayerSteps.{view_of, IsSound}
use Rattle.std.proofs.Common.{◌≡◌, ◌-◌, length}
use Rattle.rmt_play.specs.ScriptEnds.{PlaysOn}
use Rattle.rmt_play.proofs.script.play_round.Given as goal

abbrev pub invariant-statements : goal.invariant-statements
invariant-statements g l = record {
  quiet : g.T.Teller.faults l.teller ≡ g.T.Teller.faults l.fn.teller;
  sound : IsSound g.E.Engine.sights g.E.Engine.tables l.player;
  plays : PlaysOn g.T.Teller.outlet l.script l.from l.count (view_of g.E.Engine.sights g.E.Engine.tables l.fn.player) (g.T.Teller.told l.fn.teller) l.at l.refused (view_of g.E.Engine.sights g.E.Engine.tables l.player) (g.T.Teller.told l.teller);
}

abbrev pub decreases-statements : goal.decreases-statements
decreases-statements g l = length l.script - l.at
