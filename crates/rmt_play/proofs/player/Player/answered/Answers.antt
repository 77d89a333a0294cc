use Rattle.std.proofs.Common.{◌∙◌, List, length, ap, subst, sym}
use Rattle.rmt_play.specs.PlayerSteps.{named, PlayerView, IsSoundPlayer}
use Rattle.rmt_play.proofs.player.Player.answered.Goals as goal

pub returns-clause-unchanged : goal.returns-clause-unchanged
returns-clause-unchanged g c =
    let e = g.E.Engine.sights in
    ap (λ (ts : List e.Table). record { replicas = c.args.self.now.replicas; up = c.args.self.now.up; tables = named e c.args.self.now.names.items ts }) c.answered.ensures

pub returns-clause-sound : goal.returns-clause-sound
returns-clause-sound g c =
    let e = g.E.Engine.sights in
    let same = ap (λ (ts : List e.Table). record { replicas = c.args.self.now.replicas; up = c.args.self.now.up; tables = named e c.args.self.now.names.items ts }) c.answered.ensures in
    record { player = subst (λ (p : PlayerView e). IsSoundPlayer p) (sym same) c.requires.sound.player; lengths = c.requires.sound.lengths ∙ sym (ap (λ (ts : List e.Table). length ts) c.answered.ensures) }
