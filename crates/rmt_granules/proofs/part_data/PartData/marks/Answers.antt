use Rattle.std.proofs.Common.{sym, subst}
use Rattle.rmt_granules.specs.Granules.{Rising}
use Rattle.rmt_granules.proofs.Marks.{marks-rise}
use Rattle.rmt_granules.proofs.part_data.PartData.marks.Goals as goal

pub returns-clause-rising : goal.returns-clause-rising
returns-clause-rising c = subst Rising (sym c.deref.ensures.value) (marks-rise _ c.self.invariant)
