use Rattle.rmt_events.specs.TableCalls.{Allocates}
use Rattle.rmt_table.specs.TableTrees.{table_at}
use Rattle.rmt_state.proofs.StateLemmas.{state-after}
use Rattle.rmt_state.proofs.InsertLemmas.{allocates-on}
use Rattle.rmt_state.proofs.state.State.allocate.Goals as goal

pub invariant_of-self : goal.invariant_of-self
invariant_of-self c =
    let i = c.self.inside in
    let e = c.allocate.ensures in
    state-after c.allocate.result (λ lock. Allocates (table_at i.tree) c.args.replica c.args.id.now.partition c.args.id.now.digest lock.number (table_at c.allocate.new.self)) i.tree c.allocate.new.self i.replicas.items c.self.invariant
    (λ lock. allocates-on i.tree c.allocate.new.self c.args.replica c.args.id.now.partition c.args.id.now.digest lock.number (record { sessions = e.replicas; row = e.row })) e.allocates e.err
