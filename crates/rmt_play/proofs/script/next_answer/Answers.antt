use Rattle.std.proofs.Common.{[], ◌∷◌, refl, subst}
use Rattle.rmt_sql.specs.declared.parsed.Parsed.TheVariants as parsed
use Rattle.rmt_sql.specs.Script.{ReadsAt}
use Rattle.rmt_reply.specs.declared.line.Line.TheVariants as lines
use Rattle.rmt_reply.specs.declared.refusal.Refusal.TheVariants.{Syntax}
use Rattle.rmt_play.specs.PlayerSteps.{StepsTo, view_of}
use Rattle.rmt_play.proofs.TableLemmas.{stays}
use Rattle.rmt_play.proofs.script.next_answer.Goals as goal

pub play-requires-clause-offered : goal.play-requires-clause-offered
play-requires-clause-offered g c =
    c.requires.offered c.args.at c.in-Statement.statement c.in-Statement.start c.in-Statement.end (subst (ReadsAt c.args.script.now c.args.at) c.in-Statement.is c.in_ok-next_statement.ensures.reads)

pub returns-in-Syntax-clause-step : goal.returns-in-Syntax-clause-step
returns-in-Syntax-clause-step g c =
    let e = g.E.Engine.sights in
    let reads = subst (ReadsAt c.args.script.now c.args.at) c.in-Syntax.is c.in_ok-next_statement.ensures.reads in
    stays (view_of e g.E.Engine.tables c.args.player.now) (StepsTo e.workers c.args.script.now c.args.at c.in-Syntax.end (lines.Refused (Syntax c.in-Syntax.offset) ∷ []))
    (λ w i. record { found = parsed.Syntax c.in-Syntax.offset c.in-Syntax.end; reads = reads; ends = refl; executes = record { reply = refl; unchanged = refl } })
