use Rattle.std.proofs.Common.{◌∙◌, sym}
use Rattle.std.proofs.lemmas.Result.{IfOk-weaker}
use Rattle.rmt_play.specs.PlayerSteps.{view_of}
use Rattle.rmt_play.proofs.CreateLemmas.{unplayed-refused, played}
use Rattle.rmt_play.proofs.player.Player.play.Goals as goal

pub returns-else-is_played-clause-answers : goal.returns-else-is_played-clause-answers
returns-else-is_played-clause-answers g c = unplayed-refused (view_of g.E.Engine.sights g.E.Engine.tables c.args.self.now) c.args.statement c.args.start (sym c.is_played.ensures ∙ c.if-is_played.false)

pub returns-then-is_played-clause-answers : goal.returns-then-is_played-clause-answers
returns-then-is_played-clause-answers g c = IfOk-weaker c.perform.result _ _ (λ a m. played (view_of g.E.Engine.sights g.E.Engine.tables c.args.self.now) (view_of g.E.Engine.sights g.E.Engine.tables c.perform.new.self) c.args.statement c.args.start a (sym c.is_played.ensures ∙ c.if-is_played.true) m) c.perform.ensures.answers
