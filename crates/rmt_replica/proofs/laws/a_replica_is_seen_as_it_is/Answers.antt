use Rattle.rmt_replica.proofs.StateViews.{names-shown, standing-seen, already-same, waits-same, inactive-seen}
use Rattle.rmt_replica.proofs.laws.a_replica_is_seen_as_it_is.Goals as goal

pub returns-clause-standing : goal.returns-clause-standing
returns-clause-standing c = standing-seen

pub returns-clause-already : goal.returns-clause-already
returns-clause-already c = already-same

pub returns-clause-dropped : goal.returns-clause-dropped
returns-clause-dropped c = λ r i. (λ d. d, λ d. d)

pub returns-clause-waits : goal.returns-clause-waits
returns-clause-waits c = waits-same

pub returns-clause-names : goal.returns-clause-names
returns-clause-names c = λ r. names-shown r.parts

pub returns-clause-inactive : goal.returns-clause-inactive
returns-clause-inactive c = inactive-seen
