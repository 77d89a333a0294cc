use Rattle.std.proofs.Common.{◌≡◌, take}
use Rattle.rmt_play.specs.PlayerSteps.{IsSound, view_of}
use Rattle.rmt_play.proofs.LaneLemmas.{AddsLanes}
use Rattle.rmt_play.proofs.player.Player.lanes.Given as goal

abbrev pub invariant-lanes : goal.invariant-lanes
invariant-lanes g l = record {
  sound : IsSound g.E.Engine.sights g.E.Engine.tables l.self;
  numbered : l.number ≡ l.lane-index;
  adds : AddsLanes (view_of g.E.Engine.sights g.E.Engine.tables l.fn.self) (take l.lane-index l.lanes) l.reply.items (view_of g.E.Engine.sights g.E.Engine.tables l.self);
}
