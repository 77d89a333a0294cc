use Rattle.rmt_pass.proofs.SwitchLemmas.{session-stays, session-opens, session-closes}
use Rattle.rmt_pass.proofs.pass.switch.set_session.Goals as goal

pub returns-then-is_open-is_up-clause-ok : goal.returns-then-is_open-is_up-clause-ok
returns-then-is_open-is_up-clause-ok g c = session-stays c.args.tables.now c.args.table c.args.replica c.is_open.result c.args.is_up c.if-is_open-is_up.true c.is_open.ensures

pub returns-in_ok-open_session-clause-ok : goal.returns-in_ok-open_session-clause-ok
returns-in_ok-open_session-clause-ok g c = session-opens c.args.tables.now c.open_session.new.self c.args.table c.args.replica c.args.is_up c.if-is_up.true c.in_ok-open_session.ensures.ok

pub returns-else-is_up-clause-ok : goal.returns-else-is_up-clause-ok
returns-else-is_up-clause-ok g c = session-closes c.args.tables.now c.close_session.new.self c.args.table c.args.replica c.args.is_up c.if-is_up.false c.close_session.ensures.closes
