use Rattle.std.proofs.Common.{◌∙◌, Option, sym, subst}
use Rattle.rmt_play.specs.Commands.{RunsInPart}
use Rattle.rmt_play.specs.Threads.{PlaysInPart}
use Rattle.rmt_play.specs.declared.form.Form.{Form}
use Rattle.rmt_play.proofs.RunLemmas.{none_run}
use Rattle.rmt_play.proofs.top.run.Goals as goal

pub returns-then-is_err-clause-memory : goal.returns-then-is_err-clause-memory
returns-then-is_err-clause-memory g c = λ e. subst (λ (f : Option Form). RunsInPart f (g.S.Source.left c.args.source.now) (λ workers printing. PlaysInPart workers printing (g.K.Sink.written c.args.sink.now) (g.K.Sink.written c.args.sink.now))) (sym c.in-Some.is ∙ c.form_of.ensures.form) (none_run c.in-Some.field-0 _ _)
