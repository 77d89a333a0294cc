use Rattle.std.proofs.lemmas.Result.{err_from_is_err_and}
use Rattle.rmt_cluster.proofs.NoteLemmas.{drained-err, never-stopped, synced}
use Rattle.rmt_cluster.proofs.cluster.Cluster.sync.Goals as goal

pub returns-in_err-drain-clause-syncs : goal.returns-in_err-drain-clause-syncs
returns-in_err-drain-clause-syncs c =
    let p = err_from_is_err_and c.from_residual.result c.from_residual.ensures.1 in
    rw (p.1, p.2) (drained-err c.args.self.now c.drain.new.self c.args.replica c.in_err-drain.field-0.0 c.in_err-drain.ensures.drains)

pub returns-clause-syncs : goal.returns-clause-syncs
returns-clause-syncs c = synced c.args.self.now c.drain.new.self c.note.new.self c.args.replica c.note.result c.in_ok-drain.ensures.drains c.note.ensures.notes

pub returns-then-is_stopped-clause-complete : goal.returns-then-is_stopped-clause-complete
returns-then-is_stopped-clause-complete c = λ x u f ups. never-stopped c.args.self.now c.args.replica x c.is_stopped.ensures.whole u f (c.is_stopped.ensures.stopped c.if-is_stopped.true)
