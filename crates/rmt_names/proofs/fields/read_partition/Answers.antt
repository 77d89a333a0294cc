use Rattle.rmt_names.proofs.TextLemmas.{partition_all}
use Rattle.rmt_names.proofs.fields.read_partition.Goals as goal

pub returns-then-eq-clause-only : goal.returns-then-eq-clause-only
returns-then-eq-clause-only c = partition_all _ (cc)
