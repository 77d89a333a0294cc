use Rattle.rmt_storm.proofs.StormLemmas.{row-text, row-state}
use Rattle.rmt_storm.proofs.inserts.push_further.Goals as goal

pub rows-preserved : goal.rows-preserved
rows-preserved c = (
  row-text c.args.count c.rows.counter c.args.partition c.rows.draws.state c.push_row.new.draws.state c.rows.out.items c.push_text.new.out.items c.push_row.new.out.items _ c.rows-test.true c.in_ok-push_text.ensures c.in_ok-push_row.ensures.text c.in_ok-push_row.ensures.state c.rows.invariant.0,
  row-state c.args.count c.rows.counter c.args.partition c.rows.draws.state c.push_row.new.draws.state _ c.rows-test.true c.in_ok-push_row.ensures.state c.rows.invariant.1,
)
