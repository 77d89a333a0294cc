use Rattle.std.proofs.Common.{refl}
use Rattle.rmt_play.specs.PlayerSteps.{view_of}
use Rattle.rmt_play.proofs.TurnLemmas.{counts}
use Rattle.rmt_play.proofs.player.Player.count.Goals as goal

pub returns-clause-moves : goal.returns-clause-moves
returns-clause-moves g c = counts (view_of g.E.Engine.sights g.E.Engine.tables c.args.self.now) _ c.args.count c.requires.range.few refl
