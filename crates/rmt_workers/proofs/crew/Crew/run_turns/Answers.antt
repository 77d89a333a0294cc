use Rattle.rmt_pass.specs.Passes.{up_in}
use Rattle.rmt_workers.proofs.StepLemmas.{saw-of, saw-runs}
use Rattle.rmt_workers.proofs.crew.Crew.run_turns.Goals as goal

pub returns-clause-runs : goal.returns-clause-runs
returns-clause-runs g c =
    saw-runs g.N.Naming.offered (up_in c.args.pass.now.up) c.args.turns c.args.pass.now c.see.new.pass c.args.table
    (saw-of c.args.pass.now c.args.table c.in_ok-_guard._guard.value c.see.new.pass c.in_ok-_guard.ensures.ok)
