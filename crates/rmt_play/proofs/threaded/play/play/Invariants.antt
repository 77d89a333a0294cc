use Rattle.std.proofs.Common.{◌≡◌, ◌≤◌, ◌-◌, length}
use Rattle.rmt_play.specs.Offered.{IsOfferedBy}
use Rattle.rmt_play.specs.Seats.{IsGround, ground_view}
use Rattle.rmt_play.specs.Threads.{AreClearIn}
use Rattle.rmt_play.proofs.ScriptLemmas.{SoFar}
use Rattle.rmt_play.proofs.threaded.play.play.Given as goal

abbrev pub invariant-rounds : goal.invariant-rounds
invariant-rounds g l = record {
  within : l.at ≤ length l.script;
  few : l.refused ≤ l.at;
  quiet : g.T.Teller.faults l.teller ≡ g.T.Teller.faults l.fn.teller;
  ground : IsGround (IsOfferedBy l.script) l.ground;
  so_far : AreClearIn l.script → SoFar g.T.Teller.outlet l.script l.at (ground_view (IsOfferedBy l.script) l.ground) (g.T.Teller.told l.fn.teller) (g.T.Teller.told l.teller) l.refused;
}

abbrev pub decreases-rounds : goal.decreases-rounds
decreases-rounds g l = length l.script - l.at
