use Rattle.rmt_events.specs.Clusters.{without_kinds}
use Rattle.rmt_statement_model.specs.Inserts.{asked_at}
use Rattle.rmt_pass.specs.Passes.{up_in}
use Rattle.rmt_workers.proofs.InsertLemmas.{CommitsOn}
use Rattle.rmt_workers.proofs.crew.Crew.commit.Given as goal

abbrev pub invariant-tries : goal.invariant-tries
invariant-tries g l =
    (goal.iterator-tries g).can_next l.iterator' × (goal.iterator-tries g).is_finite l.iterator'
    × CommitsOn (up_in l.initial.pass.up) (asked_at l.lock.replica l.need) (without_kinds l.block) l.lock l.initial.pass l.table l.pass
