use Rattle.rmt_shared.specs.SharedTables.{logs_of}
use Rattle.rmt_shared.proofs.AppendLemmas.{gain-none}
use Rattle.rmt_shared.proofs.shared_replica.SharedReplica.decide.Goals as goal

pub returns-in_err-job-clause-works : goal.returns-in_err-job-clause-works
returns-in_err-job-clause-works g c = gain-none (logs_of c.args.tables.now)
