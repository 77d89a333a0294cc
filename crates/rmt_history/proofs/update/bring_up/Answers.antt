use Rattle.std.proofs.Common.{sym}
use Rattle.rmt_history.proofs.NextLive.{over-of}
use Rattle.rmt_history.proofs.update.bring_up.Goals as goal

pub place-requires-clause-over : goal.place-requires-clause-over
place-requires-clause-over c = over-of c.args.entry.now c.args.names.now.names c.in-Some.new c.requires.lawful (sym c.in-Some.ensures)
