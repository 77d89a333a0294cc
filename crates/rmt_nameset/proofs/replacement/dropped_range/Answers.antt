use Rattle.rmt_nameset.proofs.Placing.{dropped-range, dropped-by}
use Rattle.rmt_nameset.proofs.replacement.dropped_range.Goals as goal

pub returns-clause-range : goal.returns-clause-range
returns-clause-range c = dropped-range c.args.partition c.args.number c.args.names.now _ c.count_earlier-from.ensures c.count_up_to-to.ensures

pub returns-clause-dropped : goal.returns-clause-dropped
returns-clause-dropped c = dropped-by c.args.partition c.args.number c.args.names.now _ c.requires.apart c.count_earlier-from.ensures c.count_up_to-to.ensures
