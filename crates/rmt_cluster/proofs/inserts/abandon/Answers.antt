use Rattle.std.proofs.Common.{inl, refl, sym, subst, arith}
use Rattle.rmt_table.specs.TableTrees.{IsReplica}
use Rattle.rmt_cluster.proofs.InsertActs.{ends-acts}
use Rattle.rmt_cluster.proofs.inserts.abandon.Goals as goal

pub end-requires : goal.end-requires
end-requires c =
    let f = c.in-Some.ensures in
    let h = subst (IsReplica c.args.state.now.tree) (sym c.lock.ensures.replica) (c.requires.suit.here c.in-Some.found.now f.0) in
    let a = h.first in
    let b = h.last in
    let e = c.unlock.ensures.sessions in
    record { here = record { first = a; last = omega (arith, b, e) } }

pub returns-clause-ok : goal.returns-clause-ok
returns-clause-ok c = λ events.
    let f = c.in-Some.ensures in
    inl (ends-acts c.args.state.now c.unlock.new.self c.end.new.state c.args.attempts.now c.end.new.attempts c.args.attempt c.in-Some.found.now c.lock.result.now f.0 f.1 c.lock.ensures.holds c.lock.ensures.number c.lock.ensures.replica c.in_ok-unlock.ensures.unlocks c.unlock.ensures.replicas c.end.ensures events, refl)
