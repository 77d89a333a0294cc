use Rattle.std.proofs.Common.{length}
use Rattle.rmt_query.proofs.tuple.+compare_from.Given as goal

abbrev pub decreases-compare_from : goal.decreases-compare_from
decreases-compare_from l = length l.left.now
