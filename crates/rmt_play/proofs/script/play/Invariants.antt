use Rattle.rmt_play.specs.PlayerSteps.{clusters_in, IsSoundIn}
use Rattle.std.proofs.Common.{◌≡◌, ◌≤◌, ◌-◌, length}
use Rattle.rmt_play.proofs.ScriptLemmas.{SoFar}
use Rattle.rmt_play.proofs.script.play.Given as goal

abbrev pub invariant-rounds : goal.invariant-rounds
invariant-rounds g l = record {
  within : l.at ≤ length l.script;
  few : l.refused ≤ l.at;
  quiet : g.T.Teller.faults l.teller ≡ g.T.Teller.faults l.fn.teller;
  sound : IsSoundIn l.player;
  so_far : SoFar g.T.Teller.outlet l.script l.at (clusters_in l.player) (g.T.Teller.told l.fn.teller) (g.T.Teller.told l.teller) l.refused;
}

abbrev pub decreases-rounds : goal.decreases-rounds
decreases-rounds g l = length l.script - l.at
