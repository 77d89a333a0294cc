use Rattle.rmt_jobs.proofs.EntryLemmas.{waits-for-nothing}
use Rattle.rmt_jobs.proofs.next.waits_for_part.Goals as goal

pub returns-in-Covered : goal.returns-in-Covered
returns-in-Covered c =
    waits-for-nothing c.args.replica.now c.args.i c.why.result c.requires c.why.ensures c.in-Covered.is
