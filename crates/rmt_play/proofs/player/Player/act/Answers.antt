use Rattle.std.proofs.Common.{◌<◌, subst, sym}
use Rattle.rmt_state.specs.States.{IsNumber}
use Rattle.rmt_play.specs.ActSteps.{ExecutesThere}
use Rattle.rmt_play.specs.PlayerSteps.{IsAtAll}
use Rattle.rmt_play.proofs.NamedLemmas.{changes-named, sound-changed, length-changed, named-length, each-table}
use Rattle.rmt_play.proofs.TurnLemmas.{up-at, free-at}
use Rattle.rmt_play.proofs.TableLemmas.{each-get}
use Rattle.rmt_play.proofs.player.Player.act.Goals as goal

pub returns-in-Ok-clause-acts : goal.returns-in-Ok-clause-acts
returns-in-Ok-clause-acts g c =
    changes-named g.E.Engine.sights c.args.self.now.replicas c.args.self.now.up c.args.self.now.names.items (g.E.Engine.tables c.args.self.now.engine) (g.E.Engine.tables c.act.new.self) c.args.place (λ s u. ExecutesThere s c.args.replica c.args.act.now c.in-Ok.line u) c.requires.sound.lengths c.in-Ok.ensures

pub returns-in-Ok-clause-sound : goal.returns-in-Ok-clause-sound
returns-in-Ok-clause-sound g c =
    record {
      player = sound-changed g.E.Engine.sights c.args.self.now.replicas c.args.self.now.up c.args.self.now.names.items (g.E.Engine.tables c.args.self.now.engine) (g.E.Engine.tables c.act.new.self) c.args.place (λ s u. ExecutesThere s c.args.replica c.args.act.now c.in-Ok.line u) c.requires.sound.lengths c.in-Ok.ensures c.requires.sound.player;
      lengths = length-changed g.E.Engine.sights c.args.self.now.names.items (g.E.Engine.tables c.args.self.now.engine) (g.E.Engine.tables c.act.new.self) c.args.place (λ s u. ExecutesThere s c.args.replica c.args.act.now c.in-Ok.line u) c.requires.sound.lengths c.in-Ok.ensures;
    }

pub act-requires-clause-place : goal.act-requires-clause-place
act-requires-clause-place g c = subst (λ n. c.args.place < n) (named-length g.E.Engine.sights c.args.self.now.names.items (g.E.Engine.tables c.args.self.now.engine) c.requires.sound.lengths) c.requires.place

pub act-requires-clause-ready : goal.act-requires-clause-ready
act-requires-clause-ready g c =
    let e = g.E.Engine.sights in
    let all = each-table g.E.Engine.sights (IsAtAll g.E.Engine.sights c.args.self.now.replicas c.args.self.now.up) c.args.self.now.names.items (g.E.Engine.tables c.args.self.now.engine) c.requires.sound.lengths c.requires.sound.player.all in
    record {
      here = λ t q. subst (IsNumber c.args.replica) (sym (each-get (IsAtAll e c.args.self.now.replicas c.args.self.now.up) (g.E.Engine.tables c.args.self.now.engine) c.args.place t q all).all) c.requires.replica;
      ups_are = λ t q. up-at e c.args.self.now.replicas c.args.self.now.up (g.E.Engine.tables c.args.self.now.engine) c.args.place t c.args.replica c.is_up-is_up.result all q (sym c.is_up-is_up.ensures);
      free = λ t q. free-at e c.args.self.now.replicas c.args.self.now.up (g.E.Engine.tables c.args.self.now.engine) c.args.place t all q;
    }
