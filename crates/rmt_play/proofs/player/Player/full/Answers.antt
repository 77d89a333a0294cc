use Rattle.std.proofs.Common.{◌∙◌, arith}
use Rattle.rmt_play.proofs.NamedLemmas.{few-named, many-named}
use Rattle.rmt_play.proofs.player.Player.full.Goals as goal

pub returns-then-value-lt-MOST_TABLES : goal.returns-then-value-lt-MOST_TABLES
returns-then-value-lt-MOST_TABLES g c =
    let l = c.if-value-lt-MOST_TABLES.true in
    few-named g.E.Engine.sights c.args.self.now.names.items (g.E.Engine.tables c.args.self.now.engine) c.len-value.result c.requires.sound.lengths (c.len-value.ensures ∙ c.args.self.now.names.ok.0) (omega (arith, l))

pub returns : goal.returns
returns g c =
    let l = c.if-value-lt-MOST_TABLES.false in
    many-named g.E.Engine.sights c.args.self.now.names.items (g.E.Engine.tables c.args.self.now.engine) c.len-value.result c.requires.sound.lengths (c.len-value.ensures ∙ c.args.self.now.names.ok.0) (omega (arith, l))
