use Rattle.rmt_events.specs.TableCalls.{Unlocks}
use Rattle.rmt_table.specs.TableTrees.{table_at}
use Rattle.rmt_state.proofs.StateLemmas.{state-after}
use Rattle.rmt_state.proofs.ChangeLemmas.{on-if}
use Rattle.rmt_state.proofs.InsertLemmas.{unlocks-on}
use Rattle.rmt_state.proofs.state.State.unlock.Goals as goal

pub invariant_of-self-2 : goal.invariant_of-self-2
invariant_of-self-2 c =
    let i = c.self.inside in
    let e = c.abandon.ensures in
    let k = c.args.lock.now in
    state-after c.abandon.result (λ there. Unlocks (table_at i.tree) k.id.partition k.number (table_at c.abandon.new.self)) i.tree c.abandon.new.self i.replicas.items c.self.invariant
    (λ there. unlocks-on i.tree c.abandon.new.self k.id.partition k.number (record { sessions = e.replicas; row = e.row })) (on-if c.abandon.result _ e.unlocks) e.err
