use Rattle.rmt_play.proofs.CommandLemmas.{switches-in}
use Rattle.rmt_play.proofs.system.switch_in.Goals as goal

pub returns-clause-executes : goal.returns-clause-executes
returns-clause-executes g c = λ table. switches-in (g.E.Acting.seen c.args.engine.now) (g.E.Acting.seen c.switch_fetches.new.self) c.args.replica c.args.allowed table c.in_ok-switch_fetches.ensures.switches c.in_ok-switch_fetches.ensures.events
