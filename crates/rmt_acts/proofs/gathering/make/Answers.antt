use Rattle.rmt_acts.proofs.EventLists.{stops-first}
use Rattle.rmt_acts.proofs.gathering.make.Goals as goal

pub returns-in-Err-clause-err : goal.returns-in-Err-clause-err
returns-in-Err-clause-err c = stops-first c.args.cluster.now c.step.new.self c.args.event c.in-Err.ensures.err
