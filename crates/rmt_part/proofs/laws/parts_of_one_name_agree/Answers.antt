use Rattle.rmt_part.proofs.SameBlocks.{same-ids, same-data}
use Rattle.rmt_part.proofs.laws.parts_of_one_name_agree.Goals as goal

pub returns-clause-ids : goal.returns-clause-ids
returns-clause-ids c = same-ids

pub returns-clause-data : goal.returns-clause-data
returns-clause-data c = same-data
