use Rattle.rmt_state.proofs.InsertLemmas.{state-committed}
use Rattle.rmt_state.proofs.state.State.commit.Goals as goal

pub invariant_of-self : goal.invariant_of-self
invariant_of-self c =
    let i = c.self.inside in
    let e = c.commit_insert.ensures in
    state-committed c.commit_insert.result i.tree c.commit_insert.new.self c.args.lock.now c.args.need c.args.values i.replicas.items c.self.invariant (record { sessions = e.replicas; row = e.row }) e.commits e.err

pub invariant_of-self-2 : goal.invariant_of-self-2
invariant_of-self-2 c =
    let i = c.self.inside in
    let e = c.commit_insert.ensures in
    state-committed c.commit_insert.result i.tree c.commit_insert.new.self c.args.lock.now c.args.need c.args.values i.replicas.items c.self.invariant (record { sessions = e.replicas; row = e.row }) e.commits e.err
