use Rattle.rmt_play.specs.PlayerSteps.{view_of}
use Rattle.std.proofs.Common.{◌∙◌, refl}
use Rattle.rmt_play.proofs.ScriptLemmas.{plays-start, plays-more}
use Rattle.rmt_play.proofs.script.play_round.Goals as goal

pub statements-init : goal.statements-init
statements-init g c = record {
  quiet = refl;
  sound = c.requires.sound;
  plays = plays-start c.args.script.now c.args.from c.args.count (view_of g.E.Engine.sights g.E.Engine.tables c.args.player.now) (g.T.Teller.told c.args.teller.now) c.requires.few c.requires.within;
}

pub statements-preserved : goal.statements-preserved
statements-preserved g c = record {
  quiet = c.in-On.ensures.quiet (λ e. cc) ∙ c.statements.invariant.quiet;
  sound = c.in-On.ensures.sound;
  plays = plays-more c.args.script.now c.args.from c.args.count (view_of g.E.Engine.sights g.E.Engine.tables c.args.player.now) (view_of g.E.Engine.sights g.E.Engine.tables c.statements.player) (view_of g.E.Engine.sights g.E.Engine.tables c.play_next.new.player) _ _ _ c.statements.at c.statements.refused c.in-On.end c.in-On.more
      c.statements.invariant.plays c.in-On.ensures.progress;
}

pub returns-in-AtEnd-clause-round : goal.returns-in-AtEnd-clause-round
returns-in-AtEnd-clause-round g c =
    let (ended, keeps, same) = c.in-AtEnd.ensures.progress in
    record { at = c.statements.at; refused = c.statements.refused; player = (view_of g.E.Engine.sights g.E.Engine.tables c.statements.player); now = g.T.Teller.told c.statements.teller; plays = c.statements.invariant.plays; ends = (refl, ended, keeps, same) }

pub returns-in-Creates-clause-round : goal.returns-in-Creates-clause-round
returns-in-Creates-clause-round g c =
    record { at = c.statements.at; refused = c.statements.refused; player = (view_of g.E.Engine.sights g.E.Engine.tables c.statements.player); now = g.T.Teller.told c.statements.teller; plays = c.statements.invariant.plays; ends = (refl, c.in-Creates.ensures.progress) }

pub returns-in-WriteFault-clause-round : goal.returns-in-WriteFault-clause-round
returns-in-WriteFault-clause-round g c =
    record { at = c.statements.at; refused = c.statements.refused; player = (view_of g.E.Engine.sights g.E.Engine.tables c.statements.player); now = g.T.Teller.told c.statements.teller; plays = c.statements.invariant.plays; ends = c.in-WriteFault.ensures.progress }

pub returns-in-Memory-clause-round : goal.returns-in-Memory-clause-round
returns-in-Memory-clause-round g c =
    record { at = c.statements.at; refused = c.statements.refused; player = (view_of g.E.Engine.sights g.E.Engine.tables c.statements.player); now = g.T.Teller.told c.statements.teller; plays = c.statements.invariant.plays; ends = c.in-Memory.ensures.progress }
