use Rattle.rmt_workers.proofs.crew.close.insist.Given as goal

abbrev pub invariant-tries : goal.invariant-tries
invariant-tries g l = (goal.iterator-tries g).can_next l.iterator' × (goal.iterator-tries g).is_finite l.iterator'
