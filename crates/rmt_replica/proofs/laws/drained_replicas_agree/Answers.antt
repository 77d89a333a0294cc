use Rattle.rmt_replica.proofs.Agreement.{same-names, same-ids, same-blocks, same-shown}
use Rattle.rmt_replica.proofs.laws.drained_replicas_agree.Goals as goal

pub returns-clause-names : goal.returns-clause-names
returns-clause-names c = same-names

pub returns-clause-ids : goal.returns-clause-ids
returns-clause-ids c = same-ids

pub returns-clause-blocks : goal.returns-clause-blocks
returns-clause-blocks c = same-blocks

pub returns-clause-reads : goal.returns-clause-reads
returns-clause-reads c = same-shown
