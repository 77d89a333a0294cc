use Rattle.std.specs.Arc.{arc_value}
use Rattle.rmt_state.proofs.NewLemmas.{new-standing, new-state}
use Rattle.rmt_state.proofs.state.State.new.Goals as goal

pub invariant_of-result : goal.invariant_of-result
invariant_of-result c =
    new-standing (arc_value c.args.schema) c.args.up.now c.in_ok-table.table c.in_ok-tree.tree c.in_ok-replicas.replicas.items c.in_ok-table.ensures.table c.in_ok-tree.ensures.sessions c.in_ok-replicas.ensures c.in_ok-tree.ensures.replicas

pub returns : goal.returns
returns c = new-state (arc_value c.args.schema) c.args.up.now c.in_ok-table.table c.in_ok-tree.tree c.in_ok-replicas.replicas.items c.in_ok-table.ensures.table c.in_ok-tree.ensures.sessions c.in_ok-replicas.ensures c.in_ok-tree.ensures.replicas
