use Rattle.std.proofs.Common.{◌≡◌, ◌≤◌, ◌<◌, ◌+◌, ℕ, [], ◌∷◌, length, subst, sym, refl}
use Rattle.std.specs.Prelude.{MatchOption, IfSome}
use Rattle.std.specs.declared.option.Option.{Option}
use Rattle.rmt_sql.specs.declared.parsed.Parsed.TheVariants as parsed
use Rattle.rmt_play.specs.declared.progress.Progress.{Progress}
use Rattle.rmt_play.specs.ScriptEnds.{IsReply}
use Rattle.rmt_sql.specs.Script.{ReadsAt}
use Rattle.rmt_play.specs.declared.answer.Answer.{Answer}
use Rattle.rmt_play.specs.PlayerSteps.{PlayerView, view_of, Answers, Moves, StepsTo, refusals_told}
use Rattle.rmt_play.proofs.ScriptLemmas.{reply-progress}
use Rattle.rmt_play.proofs.script.play_next.Goals as goal

pub returns-in-Reply-clause-progress : goal.returns-in-Reply-clause-progress
returns-in-Reply-clause-progress g c =
    let step = subst (λ (o : Option (Answer × ℕ)). MatchOption o (ReadsAt c.args.script.now c.args.at parsed.End × (c.next_answer.new.player ≡ c.args.player.now)) (λ x. Answers (view_of g.E.Engine.sights g.E.Engine.tables c.args.player.now) (StepsTo g.E.Engine.sights.workers c.args.script.now c.args.at x.1) x.0 (view_of g.E.Engine.sights g.E.Engine.tables c.next_answer.new.player))) c.in-Ok-Some.field-0-is c.in-Ok-Some.ensures.step in
    let further = subst (λ (o : Option (Answer × ℕ)). IfSome o (λ x. (c.args.at < x.1) × (x.1 ≤ length c.args.script.now))) c.in-Ok-Some.field-0-is c.in-Ok-Some.ensures.further in
    let fewer = subst (λ (o : Option (Answer × ℕ)). IfSome o (λ x. c.args.at + refusals_told x.0 ≤ x.1)) c.in-Ok-Some.field-0-is c.in-Ok-Some.ensures.few in
    let few = subst (λ (a : Answer). c.args.at + refusals_told a ≤ c.in-Ok-Some.end) c.in-Reply.is fewer in
    let told = subst (λ (a : Answer). Answers (view_of g.E.Engine.sights g.E.Engine.tables c.args.player.now) (StepsTo g.E.Engine.sights.workers c.args.script.now c.args.at c.in-Ok-Some.end) a (view_of g.E.Engine.sights g.E.Engine.tables c.next_answer.new.player)) c.in-Reply.is step in
    let moved = subst (λ (v : PlayerView g.E.Engine.sights). Moves (view_of g.E.Engine.sights g.E.Engine.tables c.args.player.now) (StepsTo g.E.Engine.sights.workers c.args.script.now c.args.at c.in-Ok-Some.end (c.in-Reply.line ∷ [])) v) (sym c.pass_point.ensures.unchanged) told in
    reply-progress g.T.Teller.outlet c.args.script.now c.args.at c.in-Ok-Some.end (c.in-Reply.line ∷ []) (view_of g.E.Engine.sights g.E.Engine.tables c.args.player.now) (view_of g.E.Engine.sights g.E.Engine.tables c.pass_point.new.player) _ _ c.pass_point.result
    (subst (λ (p : Progress). IsReply g.T.Teller.outlet (c.in-Reply.line ∷ []) c.in-Ok-Some.end (g.T.Teller.told c.args.teller.now) (g.T.Teller.told c.tell_line.new.teller) p) (sym c.pass_point.ensures.same) c.tell_line.ensures.reply) moved further.0 further.1 few

pub returns-in-Lanes-clause-progress : goal.returns-in-Lanes-clause-progress
returns-in-Lanes-clause-progress g c =
    let step = subst (λ (o : Option (Answer × ℕ)). MatchOption o (ReadsAt c.args.script.now c.args.at parsed.End × (c.next_answer.new.player ≡ c.args.player.now)) (λ x. Answers (view_of g.E.Engine.sights g.E.Engine.tables c.args.player.now) (StepsTo g.E.Engine.sights.workers c.args.script.now c.args.at x.1) x.0 (view_of g.E.Engine.sights g.E.Engine.tables c.next_answer.new.player))) c.in-Ok-Some.field-0-is c.in-Ok-Some.ensures.step in
    let further = subst (λ (o : Option (Answer × ℕ)). IfSome o (λ x. (c.args.at < x.1) × (x.1 ≤ length c.args.script.now))) c.in-Ok-Some.field-0-is c.in-Ok-Some.ensures.further in
    let fewer = subst (λ (o : Option (Answer × ℕ)). IfSome o (λ x. c.args.at + refusals_told x.0 ≤ x.1)) c.in-Ok-Some.field-0-is c.in-Ok-Some.ensures.few in
    let few = subst (λ (a : Answer). c.args.at + refusals_told a ≤ c.in-Ok-Some.end) c.in-Lanes.is fewer in
    let told = subst (λ (a : Answer). Answers (view_of g.E.Engine.sights g.E.Engine.tables c.args.player.now) (StepsTo g.E.Engine.sights.workers c.args.script.now c.args.at c.in-Ok-Some.end) a (view_of g.E.Engine.sights g.E.Engine.tables c.next_answer.new.player)) c.in-Lanes.is step in
    let moved = subst (λ (v : PlayerView g.E.Engine.sights). Moves (view_of g.E.Engine.sights g.E.Engine.tables c.args.player.now) (StepsTo g.E.Engine.sights.workers c.args.script.now c.args.at c.in-Ok-Some.end c.in-Lanes.reply) v) (sym c.pass_point-in-Lanes.ensures.unchanged) told in
    reply-progress g.T.Teller.outlet c.args.script.now c.args.at c.in-Ok-Some.end c.in-Lanes.reply (view_of g.E.Engine.sights g.E.Engine.tables c.args.player.now) (view_of g.E.Engine.sights g.E.Engine.tables c.pass_point-in-Lanes.new.player) _ _ c.pass_point-in-Lanes.result
    (subst (λ (p : Progress). IsReply g.T.Teller.outlet c.in-Lanes.reply c.in-Ok-Some.end (g.T.Teller.told c.args.teller.now) (g.T.Teller.told c.tell_reply.new.teller) p) (sym c.pass_point-in-Lanes.ensures.same) c.tell_reply.ensures.reply) moved further.0 further.1 few

pub returns-in-Creates-clause-progress : goal.returns-in-Creates-clause-progress
returns-in-Creates-clause-progress g c =
    let step = subst (λ (o : Option (Answer × ℕ)). MatchOption o (ReadsAt c.args.script.now c.args.at parsed.End × (c.next_answer.new.player ≡ c.args.player.now)) (λ x. Answers (view_of g.E.Engine.sights g.E.Engine.tables c.args.player.now) (StepsTo g.E.Engine.sights.workers c.args.script.now c.args.at x.1) x.0 (view_of g.E.Engine.sights g.E.Engine.tables c.next_answer.new.player))) c.in-Ok-Some.field-0-is c.in-Ok-Some.ensures.step in
    let further = subst (λ (o : Option (Answer × ℕ)). IfSome o (λ x. (c.args.at < x.1) × (x.1 ≤ length c.args.script.now))) c.in-Ok-Some.field-0-is c.in-Ok-Some.ensures.further in
    let told = subst (λ (a : Answer). Answers (view_of g.E.Engine.sights g.E.Engine.tables c.args.player.now) (StepsTo g.E.Engine.sights.workers c.args.script.now c.args.at c.in-Ok-Some.end) a (view_of g.E.Engine.sights g.E.Engine.tables c.next_answer.new.player)) c.in-Creates.is step in
    record { creates = told.1; unchanged = told.0; untold = refl; further = further.0; within = further.1 }
