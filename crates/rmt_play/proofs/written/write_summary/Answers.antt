use Rattle.std.proofs.Common.{◌∙◌}
use Rattle.rmt_play.proofs.WrittenLemmas.{summary-written}
use Rattle.rmt_play.proofs.written.write_summary.Goals as goal

pub returns-clause-writes : goal.returns-clause-writes
returns-clause-writes g c =
    summary-written c.args.lines.now c.deref.result.now _ _ c.write_all_of.result (c.deref.ensures.value ∙ c.in-Ok.ensures) c.write_all_of.ensures.all c.write_all_of.ensures.prefix c.write_all_of.ensures.no_memory
