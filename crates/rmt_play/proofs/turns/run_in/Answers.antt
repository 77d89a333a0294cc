use Rattle.rmt_play.proofs.CommandLemmas.{works-in}
use Rattle.rmt_play.proofs.turns.run_in.Goals as goal

pub returns-clause-runs : goal.returns-clause-runs
returns-clause-runs g c = works-in (g.E.Acting.seen c.args.engine.now) (g.E.Acting.seen c.run_turns.new.self) c.args.turns c.args.seed c.in_ok-run_turns.ensures.runs c.in_ok-run_turns.ensures.events
