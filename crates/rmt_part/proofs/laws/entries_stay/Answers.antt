use Rattle.rmt_part.proofs.PartLaws.{of-log-has, of-log-more, of-log-longer}
use Rattle.rmt_part.proofs.laws.entries_stay.Goals as goal

pub returns-clause-has : goal.returns-clause-has
returns-clause-has c = of-log-has

pub returns-clause-grown : goal.returns-clause-grown
returns-clause-grown c = of-log-more

pub returns-clause-longer : goal.returns-clause-longer
returns-clause-longer c = of-log-longer
