use Rattle.std.specs.Arc.{arc_value}
use Rattle.std.proofs.Common.{map}
use Rattle.rmt_nameset.proofs.Placing.{covered-range}
use Rattle.rmt_partset.specs.ActiveParts.{part_names}
use Rattle.rmt_partset.proofs.PartLists.{range-by}
use Rattle.rmt_partset.proofs.part_set.covered_range.Goals as goal

pub returns-clause-range : goal.returns-clause-range
returns-clause-range c = range-by arc_value c.args.parts.now _ (covered-range c.args.new.now (part_names (map arc_value c.args.parts.now)) _ c.count_not_behind-to.ensures.ordered c.requires.apart c.requires.over c.count_before-from.ensures c.count_not_behind-to.ensures.count)
