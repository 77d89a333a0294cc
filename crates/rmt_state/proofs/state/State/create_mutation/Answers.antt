use Rattle.rmt_events.specs.TableCalls.{CreatesMutation}
use Rattle.rmt_table.specs.TableTrees.{table_at}
use Rattle.rmt_state.proofs.StateLemmas.{state-after}
use Rattle.rmt_state.proofs.ChangeLemmas.{done-creates-on, on-if}
use Rattle.rmt_state.proofs.state.State.create_mutation.Goals as goal

pub invariant_of-self : goal.invariant_of-self
invariant_of-self c =
    let i = c.self.inside in
    let e = c.create_mutation.ensures in
    state-after c.create_mutation.result (λ token. CreatesMutation (table_at i.tree) c.args.command (table_at c.create_mutation.new.self)) i.tree c.create_mutation.new.self i.replicas.items c.self.invariant
    (λ token. done-creates-on i.tree c.create_mutation.new.self c.args.command (record { sessions = e.replicas; row = e.row })) (on-if c.create_mutation.result _ e.creates) e.err
