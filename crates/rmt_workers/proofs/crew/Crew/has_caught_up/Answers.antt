use Rattle.rmt_workers.proofs.StepLemmas.{saw-of}
use Rattle.rmt_workers.proofs.crew.Crew.has_caught_up.Goals as goal

pub returns-clause-saw : goal.returns-clause-saw
returns-clause-saw g c = saw-of c.args.pass.now c.args.table c.in_ok-tables_guard.tables_guard.value c.see.new.pass c.in_ok-tables_guard.ensures.ok
