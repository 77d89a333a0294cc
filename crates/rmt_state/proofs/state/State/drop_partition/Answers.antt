use Rattle.rmt_table.specs.TableTrees.{IsDrop}
use Rattle.rmt_state.proofs.StateLemmas.{state-after}
use Rattle.rmt_state.proofs.ChangeLemmas.{done-drop-on}
use Rattle.rmt_state.proofs.state.State.drop_partition.Goals as goal

pub invariant_of-self : goal.invariant_of-self
invariant_of-self c =
    let i = c.self.inside in
    let e = c.drop_partition.ensures in
    state-after c.drop_partition.result (λ token. IsDrop i.tree c.args.partition token c.drop_partition.new.self) i.tree c.drop_partition.new.self i.replicas.items c.self.invariant
    (done-drop-on i.tree c.drop_partition.new.self c.args.partition (record { sessions = e.replicas; row = e.row })) e.done e.err
