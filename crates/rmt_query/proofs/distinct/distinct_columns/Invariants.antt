use Rattle.std.proofs.Common.{take}
use Rattle.rmt_query.specs.Distinct.{OrderAlike}
use Rattle.rmt_query.proofs.DistinctLemmas.{AreMarked}
use Rattle.rmt_query.proofs.distinct.distinct_columns.Given as goal

abbrev pub invariant-columns : goal.invariant-columns
invariant-columns l = AreMarked l.seen l.distinct.items × OrderAlike l.distinct.items (take l.column-index l.columns)
