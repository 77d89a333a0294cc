use Rattle.rmt_events_tests.proofs.WorkedKills.{beside, at-home}
use Rattle.rmt_events_tests.proofs.worked.a_replica_is_killed_between_every_two_events.Goals as goal

pub returns-clause-beside : goal.returns-clause-beside
returns-clause-beside c = λ schema column one d1 e1. beside schema column one d1 e1

pub returns-clause-at : goal.returns-clause-at
returns-clause-at c = λ schema column one d1 e1. at-home schema column one d1 e1
