use Rattle.std.proofs.Common.{sym}
use Rattle.rmt_pass.proofs.DrainLemmas.{notes-none, notes-some}
use Rattle.rmt_pass.proofs.pass.drain.note_in.Goals as goal

pub returns-in_default-clause-ok : goal.returns-in_default-clause-ok
returns-in_default-clause-ok g c = notes-none c.args.tables.now c.args.table c.args.replica c.table.result.now (c.table.ensures.same c.table.result.now) (sym c.in_default.ensures)

pub returns-clause-ok : goal.returns-clause-ok
returns-clause-ok g c = notes-some c.args.tables.now c.note_quorum.new.self c.args.table c.args.replica c.table.result.now c.in-Some.part c.in_ok-_noted._noted c.requires.table (c.table.ensures.same c.table.result.now) c.in-Some.ensures c.in_ok-_noted.ensures.noted
