use Rattle.rmt_play.proofs.CommandLemmas.{restarts-in}
use Rattle.rmt_play.proofs.system.restart_in.Goals as goal

pub returns-clause-executes : goal.returns-clause-executes
returns-clause-executes g c = λ table. restarts-in (g.E.Acting.seen c.args.engine.now) (g.E.Acting.seen c.restart_replica.new.self) c.args.replica table c.in_ok-restart_replica.ensures.restarts c.in_ok-restart_replica.ensures.events
