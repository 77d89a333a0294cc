use Rattle.rmt_play.proofs.WrittenLemmas.{summary-whole}
use Rattle.rmt_play.proofs.written.sum_up.Goals as goal

pub returns-in-Ok-clause-end : goal.returns-in-Ok-clause-end
returns-in-Ok-clause-end g c =
    summary-whole c.new-lines.result.items c.play.new.teller.lines.items c.deref.result.now c.new-lines.ensures.items c.deref.ensures.value _ _ c.in-Ok.ensures.writes c.in-Whole.ensures.end
