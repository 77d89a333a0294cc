use Rattle.rmt_nameset.proofs.Placing.{covered-range, covered-is}
use Rattle.rmt_nameset.proofs.replacement.covered_range.Goals as goal

pub returns-clause-range : goal.returns-clause-range
returns-clause-range c = covered-range c.args.new.now c.args.names.now _ c.count_not_behind-to.ensures.ordered c.requires.apart c.requires.over c.count_before-from.ensures c.count_not_behind-to.ensures.count

pub returns-clause-covered : goal.returns-clause-covered
returns-clause-covered c = covered-is c.args.new.now c.args.names.now _ c.count_not_behind-to.ensures.ordered c.requires.apart c.requires.over c.count_before-from.ensures c.count_not_behind-to.ensures.count
