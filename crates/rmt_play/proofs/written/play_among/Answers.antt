use Rattle.std.proofs.Common.{subst, sym}
use Rattle.rmt_play.specs.ThreadedRounds.{IsWrittenAmong}
use Rattle.rmt_play.specs.declared.printing.Printing.{Printing}
use Rattle.rmt_play.proofs.WrittenLemmas.{full-among}
use Rattle.rmt_play.proofs.written.play_among.Goals as goal

pub returns-in-Full-clause-end : goal.returns-in-Full-clause-end
returns-in-Full-clause-end g c =
    subst (λ (p : Printing). IsWrittenAmong p c.args.script.now (g.K.Sink.written c.args.sink.now) (g.K.Sink.written c.play.new.teller) c.play.result) (sym c.in-Full.is) (full-among c.args.script.now _ _ c.play.result c.play.ensures.end)
