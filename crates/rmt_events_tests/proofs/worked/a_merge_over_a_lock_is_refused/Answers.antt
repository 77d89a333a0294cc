use Rattle.rmt_events_tests.proofs.WorkedMerge.{refused}
use Rattle.rmt_events_tests.proofs.worked.a_merge_over_a_lock_is_refused.Goals as goal

pub returns : goal.returns
returns c = λ schema column one two five d1 d2 d5 e1 e2 e5 apart. refused schema column one two five d1 d2 d5 e1 e2 e5 apart
