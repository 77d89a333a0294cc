use Rattle.std.proofs.Common.{take}
use Rattle.rmt_play.specs.PlayerSteps.{AddsLane, IsSound, view_of}
use Rattle.rmt_play.proofs.player.Player.lane.Given as goal

abbrev pub invariant-statements : goal.invariant-statements
invariant-statements g l = record {
  sound : IsSound g.E.Engine.sights g.E.Engine.tables l.self;
  adds : AddsLane (view_of g.E.Engine.sights g.E.Engine.tables l.fn.self) (take l.sent-index l.lane) l.fn.reply.items l.reply.items (view_of g.E.Engine.sights g.E.Engine.tables l.self);
}
