use Rattle.std.proofs.Common.{◌∙◌, ℕ, List, subst}
use Rattle.rmt_play.specs.Threads.{PlaysCut, PlaysInPart, PlaysToEnd}
use Rattle.rmt_play.specs.declared.printing.Printing.TheVariants.{Summary}
use Rattle.rmt_play.proofs.top.play_storm.Goals as goal

pub returns-clause-accepted : goal.returns-clause-accepted
returns-clause-accepted g c = λ e. subst (λ (script : List ℕ). PlaysToEnd c.args.workers Summary (g.K.Sink.written c.args.sink.now) (g.K.Sink.written c.play_by.new.sink) 0 c.play_by.result.1 script) (c.deref.ensures.value ∙ c.in-Ok.ensures) (c.play_by.ensures.accepted e)

pub returns-clause-refused : goal.returns-clause-refused
returns-clause-refused g c = λ e. subst (λ (script : List ℕ). PlaysToEnd c.args.workers Summary (g.K.Sink.written c.args.sink.now) (g.K.Sink.written c.play_by.new.sink) c.play_by.result.0.refused c.play_by.result.1 script) (c.deref.ensures.value ∙ c.in-Ok.ensures) (c.play_by.ensures.refused e)

pub returns-clause-cut_short : goal.returns-clause-cut_short
returns-clause-cut_short g c = λ e. subst (λ (script : List ℕ). PlaysCut c.args.workers Summary (g.K.Sink.written c.args.sink.now) (g.K.Sink.written c.play_by.new.sink) script) (c.deref.ensures.value ∙ c.in-Ok.ensures) (c.play_by.ensures.cut_short e)

pub returns-clause-memory : goal.returns-clause-memory
returns-clause-memory g c = λ e. subst (λ (script : List ℕ). PlaysInPart c.args.workers Summary (g.K.Sink.written c.args.sink.now) (g.K.Sink.written c.play_by.new.sink) script) (c.deref.ensures.value ∙ c.in-Ok.ensures) (c.play_by.ensures.memory e)
