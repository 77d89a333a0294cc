use Rattle.rmt_events_tests.proofs.WorkedDrop.{overtakes}
use Rattle.rmt_events_tests.proofs.worked.a_drop_overtakes_an_insert.Goals as goal

pub returns : goal.returns
returns c = λ schema column one two five d1 d2 d5 command e1 e2 e5 apart fits. overtakes schema column one two five d1 d2 d5 command e1 e2 e5 apart fits
