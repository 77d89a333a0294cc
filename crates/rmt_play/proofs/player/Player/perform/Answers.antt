use Rattle.std.proofs.Common.{◌≤◌, ◌∷◌, [], List, length, sym, subst, arith}
use Rattle.std.specs.Prelude.{IfOk}
use Rattle.std.specs.List.{All}
use Rattle.rmt_sql.specs.Script.{KeepsLimits}
use Rattle.rmt_sql_acts.specs.Acts.{HasSmallCommand}
use Rattle.rmt_statements.specs.declared.sent.Sent.{Sent}
use Rattle.rmt_play.specs.PlayerSteps.{Answers, Moves, ExecutesPlayed, most_refusals, refusals_told, view_of}
use Rattle.rmt_statements.specs.declared.statement.Statement.{Statement}
use Rattle.rmt_play.specs.Offered.{OffersLane, OffersStatement}
use Rattle.rmt_play.specs.Checks.{rule_given, granularity_of, window_of, schema_refused, schema_made}
use Rattle.rmt_play.proofs.CreateLemmas.{create-played, replied-answers, replied-few}
use Rattle.rmt_play.proofs.LaneLemmas.{lanes-offered, lanes-played}
use Rattle.rmt_play.proofs.SchemaLemmas.{create-refusable}
use Rattle.rmt_play.proofs.player.Player.perform.Goals as goal

pub create-requires-clause-refused : goal.create-requires-clause-refused
create-requires-clause-refused g c =
    let some : 1 ≤ length c.in-Create.columns = subst KeepsLimits c.in-Create.is c.requires.limits in
    create-refusable c.in_ok-made-in-Create.made c.in-Create.columns c.in-Create.key (rule_given c.in-Create.partition) (granularity_of c.in-Create.granularity) (window_of c.in-Create.window) some
    c.in_ok-made-in-Create.ensures.refused

pub send-requires-clause-small : goal.send-requires-clause-small
send-requires-clause-small g c = subst KeepsLimits c.in-At.is c.requires.limits

pub send-requires-clause-offered : goal.send-requires-clause-offered
send-requires-clause-offered g c = subst (λ (s : Statement). OffersStatement g.E.Engine.sights.offers s) c.in-At.is c.requires.offered

pub returns-in-Kill-clause-answers : goal.returns-in-Kill-clause-answers
returns-in-Kill-clause-answers g c = replied-answers (view_of g.E.Engine.sights g.E.Engine.tables c.args.self.now) (view_of g.E.Engine.sights g.E.Engine.tables c.kill.new.self) (ExecutesPlayed g.E.Engine.sights.workers c.args.statement) c.kill.result c.replied.result c.replied.ensures
    (subst (λ (s : Statement). IfOk c.kill.result (λ line. Moves (view_of g.E.Engine.sights g.E.Engine.tables c.args.self.now) (ExecutesPlayed g.E.Engine.sights.workers s (line ∷ [])) (view_of g.E.Engine.sights g.E.Engine.tables c.kill.new.self))) (sym c.in-Kill.is) c.kill.ensures.moves)

pub returns-in-Restart-clause-answers : goal.returns-in-Restart-clause-answers
returns-in-Restart-clause-answers g c = replied-answers (view_of g.E.Engine.sights g.E.Engine.tables c.args.self.now) (view_of g.E.Engine.sights g.E.Engine.tables c.restart.new.self) (ExecutesPlayed g.E.Engine.sights.workers c.args.statement) c.restart.result c.replied-in-Restart.result c.replied-in-Restart.ensures
    (subst (λ (s : Statement). IfOk c.restart.result (λ line. Moves (view_of g.E.Engine.sights g.E.Engine.tables c.args.self.now) (ExecutesPlayed g.E.Engine.sights.workers s (line ∷ [])) (view_of g.E.Engine.sights g.E.Engine.tables c.restart.new.self))) (sym c.in-Restart.is) c.restart.ensures.moves)

pub returns-in-Run-clause-answers : goal.returns-in-Run-clause-answers
returns-in-Run-clause-answers g c = replied-answers (view_of g.E.Engine.sights g.E.Engine.tables c.args.self.now) (view_of g.E.Engine.sights g.E.Engine.tables c.run.new.self) (ExecutesPlayed g.E.Engine.sights.workers c.args.statement) c.run.result c.replied-in-Run.result c.replied-in-Run.ensures
    (subst (λ (s : Statement). IfOk c.run.result (λ line. Moves (view_of g.E.Engine.sights g.E.Engine.tables c.args.self.now) (ExecutesPlayed g.E.Engine.sights.workers s (line ∷ [])) (view_of g.E.Engine.sights g.E.Engine.tables c.run.new.self))) (sym c.in-Run.is) c.run.ensures.moves)

pub returns-in-At-clause-answers : goal.returns-in-At-clause-answers
returns-in-At-clause-answers g c = replied-answers (view_of g.E.Engine.sights g.E.Engine.tables c.args.self.now) (view_of g.E.Engine.sights g.E.Engine.tables c.send.new.self) (ExecutesPlayed g.E.Engine.sights.workers c.args.statement) c.send.result c.replied-in-At.result c.replied-in-At.ensures
    (subst (λ (s : Statement). IfOk c.send.result (λ line. Moves (view_of g.E.Engine.sights g.E.Engine.tables c.args.self.now) (ExecutesPlayed g.E.Engine.sights.workers s (line ∷ [])) (view_of g.E.Engine.sights g.E.Engine.tables c.send.new.self))) (sym c.in-At.is) c.send.ensures.moves)

pub returns-in-Replicas-clause-answers : goal.returns-in-Replicas-clause-answers
returns-in-Replicas-clause-answers g c = subst (λ (s : Statement). Moves (view_of g.E.Engine.sights g.E.Engine.tables c.args.self.now) (ExecutesPlayed g.E.Engine.sights.workers s (c.count.result ∷ [])) (view_of g.E.Engine.sights g.E.Engine.tables c.count.new.self)) (sym c.in-Replicas.is) c.count.ensures.moves

pub returns-in_ok-made-in-Create-clause-answers : goal.returns-in_ok-made-in-Create-clause-answers
returns-in_ok-made-in-Create-clause-answers g c =
    subst (λ (s : Statement). Answers (view_of g.E.Engine.sights g.E.Engine.tables c.args.self.now) (ExecutesPlayed g.E.Engine.sights.workers s) c.create.result (view_of g.E.Engine.sights g.E.Engine.tables c.args.self.now)) (sym c.in-Create.is)
    (create-played (view_of g.E.Engine.sights g.E.Engine.tables c.args.self.now) (view_of g.E.Engine.sights g.E.Engine.tables c.args.self.now) c.in-Create.table (schema_refused c.in-Create.columns c.in-Create.partition c.in-Create.key c.in-Create.granularity c.in-Create.window)
    (schema_made c.in-Create.columns c.in-Create.partition c.in-Create.key c.in-Create.granularity c.in-Create.window) c.in_ok-made-in-Create.made c.create.result
    c.in_ok-made-in-Create.ensures.ok c.in_ok-made-in-Create.ensures.known c.in_ok-made-in-Create.ensures.refused c.create.ensures.answers)

pub lanes-requires-clause-few : goal.lanes-requires-clause-few
lanes-requires-clause-few g c = subst (λ (l : List (List Sent)). length l ≤ 8) (sym c.as_slice.ensures) (subst KeepsLimits c.in-Lanes.is c.requires.limits).0

pub lanes-requires-clause-small : goal.lanes-requires-clause-small
lanes-requires-clause-small g c = subst (All (All (λ (sent : Sent). HasSmallCommand sent.act))) (sym c.as_slice.ensures) (subst KeepsLimits c.in-Lanes.is c.requires.limits).1

pub lanes-requires-clause-offered : goal.lanes-requires-clause-offered
lanes-requires-clause-offered g c =
    subst (All (OffersLane g.E.Engine.sights.offers)) (sym c.as_slice.ensures)
    (lanes-offered g.E.Engine.sights.offers c.in-Lanes.lanes (subst (λ (s : Statement). OffersStatement g.E.Engine.sights.offers s) c.in-Lanes.is c.requires.offered))

pub returns-in_ok-reply-in-Lanes-clause-answers : goal.returns-in_ok-reply-in-Lanes-clause-answers
returns-in_ok-reply-in-Lanes-clause-answers g c =
    lanes-played (view_of g.E.Engine.sights g.E.Engine.tables c.args.self.now) _ c.args.statement c.in-Lanes.lanes c.as_slice.result.now c.in_ok-reply-in-Lanes.reply c.in-Lanes.is c.as_slice.ensures c.in_ok-reply-in-Lanes.ensures.plays

pub returns-in-At-clause-few : goal.returns-in-At-clause-few
returns-in-At-clause-few g c =
    subst (λ (s : Statement). IfOk c.replied-in-At.result (λ a. refusals_told a ≤ most_refusals s)) (sym c.in-At.is) (replied-few 1 c.send.result c.replied-in-At.result c.replied-in-At.ensures (omega arith))
