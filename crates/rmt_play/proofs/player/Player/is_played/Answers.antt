use Rattle.std.proofs.Common.{rules, ◌≡◌, sym, subst, length}
use Rattle.rmt_play.specs.Checks.{is_played}
use Rattle.rmt_play.proofs.NamedLemmas.{count-named}
use Rattle.rmt_play.proofs.player.Player.is_played.Goals as goal

pub returns-then-count-le-MOST_REPLICAS : goal.returns-then-count-le-MOST_REPLICAS
returns-then-count-le-MOST_REPLICAS g c =
    let plain : c.is_empty.result ≡ is_played (length c.args.self.now.names.items) c.args.statement.now = search rules in
    subst (λ n. c.is_empty.result ≡ is_played n c.args.statement.now) (sym (count-named g.E.Engine.sights c.args.self.now.names.items (g.E.Engine.tables c.args.self.now.engine) c.requires.sound.lengths)) plain
