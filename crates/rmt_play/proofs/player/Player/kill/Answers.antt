use Rattle.std.proofs.Common.{◌≡◌, ◌∙◌, ◌≤◌, arith, sym}
use Rattle.std.specs.declared.option.Option.TheVariants.{Some}
use Rattle.rmt_play.specs.Checks.{replica_of}
use Rattle.rmt_play.specs.PlayerSteps.{view_of}
use Rattle.rmt_play.proofs.TurnLemmas.{kills, kill-unknown, kill-down}
use Rattle.rmt_play.proofs.player.Player.kill.Goals as goal

pub returns-clause-moves : goal.returns-clause-moves
returns-clause-moves g c =
    let p = view_of g.E.Engine.sights g.E.Engine.tables c.args.self.now in
    let sound = c.requires.sound.player in
    let at : replica_of p.replicas c.args.name ≡ Some c.in-Some.replica = (sym c.replica_named.ensures.number ∙ c.in-Some.is) in
    let last : c.in-Some.replica ≤ p.replicas = c.in-Some.ensures.range.1 in
    let first = c.in-Some.ensures.range.0 in
    kills p (view_of g.E.Engine.sights g.E.Engine.tables c.turn.new.self) c.args.name c.in-Some.replica at (omega (arith, first)) last sound.few sound.eight (sym c.is_up.ensures ∙ c.if-not-is_up.false) c.in_ok-turn.ensures.turns

pub returns-in_default-clause-moves : goal.returns-in_default-clause-moves
returns-in_default-clause-moves g c = kill-unknown (view_of g.E.Engine.sights g.E.Engine.tables c.args.self.now) c.args.name (sym c.replica_named.ensures.number ∙ c.in_default.is)

pub returns-then-not-is_up-clause-moves : goal.returns-then-not-is_up-clause-moves
returns-then-not-is_up-clause-moves g c = kill-down (view_of g.E.Engine.sights g.E.Engine.tables c.args.self.now) c.args.name c.in-Some.replica (sym c.replica_named.ensures.number ∙ c.in-Some.is) (sym c.is_up.ensures ∙ c.if-not-is_up.true)
