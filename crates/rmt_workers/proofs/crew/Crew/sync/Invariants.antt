use Rattle.rmt_workers.proofs.StepLemmas.{Looked}
use Rattle.rmt_workers.proofs.crew.Crew.sync.Given as goal

abbrev pub invariant-tries : goal.invariant-tries
invariant-tries g l =
    (goal.iterator-tries g).can_next l.iterator' × (goal.iterator-tries g).is_finite l.iterator' × Looked l.initial.pass l.table l.pass
