use Rattle.rmt_jobs.proofs.JobLemmas.{one-job, some-job}
use Rattle.rmt_jobs.proofs.laws.exactly_one_job_is_right.Goals as goal

pub returns-clause-some : goal.returns-clause-some
returns-clause-some c = some-job

pub returns-clause-one : goal.returns-clause-one
returns-clause-one c = one-job
