use Rattle.rmt_workers.proofs.StepLemmas.{saw-of}
use Rattle.rmt_workers.proofs.crew.Crew.is_asked.Goals as goal

pub returns-clause-ok : goal.returns-clause-ok
returns-clause-ok g c = saw-of c.args.pass.now c.args.table c.in_ok-_guard._guard.value c.see.new.pass c.in_ok-_guard.ensures.ok
