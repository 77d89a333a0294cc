use Rattle.std.proofs.Common.{◌-◌, ◌∙◌, sym, subst}
use Rattle.std.specs.Prelude.{slice_set}
use Rattle.rmt_model.specs.Words.{Each}
use Rattle.rmt_state.specs.States.{IsNumber}
use Rattle.rmt_play.specs.PlayerSteps.{IsAtAll, TurnsAll, view_of, named}
use Rattle.rmt_play.proofs.NamedLemmas.{each-named, each-table, each-more-of, turns-named}
use Rattle.rmt_play.proofs.TurnLemmas.{sound-turned, marks-set}
use Rattle.rmt_play.proofs.player.Player.turn.Goals as goal

pub returns-in-Ok-clause-sound : goal.returns-in-Ok-clause-sound
returns-in-Ok-clause-sound g c =
    let e = g.E.Engine.sights in
    let all = each-table e (IsAtAll e c.args.self.now.replicas c.args.self.now.up) c.args.self.now.names.items (g.E.Engine.tables c.args.self.now.engine) c.requires.sound.lengths c.requires.sound.player.all in
    let marks = marks-set c.args.self.now.up (c.from.result - 1) c.args.is_up in
    record {
      player = record {
        some = c.requires.sound.player.some;
        few = c.requires.sound.player.few;
        eight = marks ∙ c.requires.sound.player.eight;
        all = each-named e (IsAtAll e c.args.self.now.replicas (slice_set c.args.self.now.up (c.from.result - 1) c.args.is_up)) c.args.self.now.names.items (g.E.Engine.tables c.turn.new.self)
            (subst (λ n. Each (IsAtAll e c.args.self.now.replicas (slice_set c.args.self.now.up (n - 1) c.args.is_up)) (g.E.Engine.tables c.turn.new.self)) (sym c.from.ensures)
            (sound-turned e c.args.self.now.replicas c.args.replica c.args.self.now.up c.args.is_up (g.E.Engine.tables c.args.self.now.engine) (g.E.Engine.tables c.turn.new.self) c.requires.replica.first c.requires.replica.last c.requires.sound.player.few c.requires.sound.player.eight c.in-Ok.ensures all));
      };
      lengths = c.requires.sound.lengths ∙ sym c.in-Ok.ensures.all;
    }

pub returns-in-Ok-clause-turns : goal.returns-in-Ok-clause-turns
returns-in-Ok-clause-turns g c =
    let e = g.E.Engine.sights in
    subst (λ n. TurnsAll (view_of e g.E.Engine.tables c.args.self.now) c.args.replica c.args.is_up (record { replicas = c.args.self.now.replicas; up = slice_set c.args.self.now.up (n - 1) c.args.is_up; tables = named e c.args.self.now.names.items (g.E.Engine.tables c.turn.new.self) })) (sym c.from.ensures)
    (turns-named e c.args.self.now.replicas c.args.self.now.up c.args.self.now.names.items (g.E.Engine.tables c.args.self.now.engine) (g.E.Engine.tables c.turn.new.self) c.args.replica c.args.is_up c.requires.sound.lengths c.in-Ok.ensures)

pub turn-requires : goal.turn-requires
turn-requires g c =
    let e = g.E.Engine.sights in
    let all = each-table e (IsAtAll e c.args.self.now.replicas c.args.self.now.up) c.args.self.now.names.items (g.E.Engine.tables c.args.self.now.engine) c.requires.sound.lengths c.requires.sound.player.all in
    each-more-of (IsAtAll e c.args.self.now.replicas c.args.self.now.up) (λ t. IsNumber c.args.replica (e.seen t).count) (g.E.Engine.tables c.args.self.now.engine) (λ t h. subst (IsNumber c.args.replica) (sym h.all) c.requires.replica) all
