use Rattle.std.proofs.Common.{◌<◌, subst}
use Rattle.rmt_play.specs.ActSteps.{RunsTable}
use Rattle.rmt_play.specs.PlayerSteps.{IsAtAll}
use Rattle.rmt_play.proofs.NamedLemmas.{changes-named, sound-changed, length-changed, named-length, each-table}
use Rattle.rmt_play.proofs.TurnLemmas.{free-at}
use Rattle.rmt_play.proofs.player.Player.work.Goals as goal

pub returns-in-Ok-clause-runs : goal.returns-in-Ok-clause-runs
returns-in-Ok-clause-runs g c =
    changes-named g.E.Engine.sights c.args.self.now.replicas c.args.self.now.up c.args.self.now.names.items (g.E.Engine.tables c.args.self.now.engine) (g.E.Engine.tables c.work.new.self) c.args.place (RunsTable c.args.turns c.args.seed c.in-Ok.line) c.requires.sound.lengths c.in-Ok.ensures

pub returns-in-Ok-clause-sound : goal.returns-in-Ok-clause-sound
returns-in-Ok-clause-sound g c =
    record {
      player = sound-changed g.E.Engine.sights c.args.self.now.replicas c.args.self.now.up c.args.self.now.names.items (g.E.Engine.tables c.args.self.now.engine) (g.E.Engine.tables c.work.new.self) c.args.place (RunsTable c.args.turns c.args.seed c.in-Ok.line) c.requires.sound.lengths c.in-Ok.ensures c.requires.sound.player;
      lengths = length-changed g.E.Engine.sights c.args.self.now.names.items (g.E.Engine.tables c.args.self.now.engine) (g.E.Engine.tables c.work.new.self) c.args.place (RunsTable c.args.turns c.args.seed c.in-Ok.line) c.requires.sound.lengths c.in-Ok.ensures;
    }

pub work-requires-clause-place : goal.work-requires-clause-place
work-requires-clause-place g c = subst (λ n. c.args.place < n) (named-length g.E.Engine.sights c.args.self.now.names.items (g.E.Engine.tables c.args.self.now.engine) c.requires.sound.lengths) c.requires.place

pub work-requires-clause-free : goal.work-requires-clause-free
work-requires-clause-free g c =
    let e = g.E.Engine.sights in
    let all = each-table g.E.Engine.sights (IsAtAll g.E.Engine.sights c.args.self.now.replicas c.args.self.now.up) c.args.self.now.names.items (g.E.Engine.tables c.args.self.now.engine) c.requires.sound.lengths c.requires.sound.player.all in
    λ t q. free-at e c.args.self.now.replicas c.args.self.now.up (g.E.Engine.tables c.args.self.now.engine) c.args.place t all q
