use Rattle.rmt_part.proofs.PartLaws.{of-table-within, of-log-prefix}
use Rattle.rmt_part.proofs.laws.made_within_a_copy.Goals as goal

pub returns-clause-table : goal.returns-clause-table
returns-clause-table c = of-table-within

pub returns-clause-prefix : goal.returns-clause-prefix
returns-clause-prefix c = of-log-prefix
