use Rattle.std.proofs.Common.{◌≡◌, ◌-◌, ◌≤◌, ◌++◌}
use Rattle.rmt_table_model.specs.Nodes.{replicas_ops, new_ops}
use Rattle.rmt_table.proofs.layout.new_ops.Given as goal

abbrev pub invariant-replicas : goal.invariant-replicas
invariant-replicas l = (l.made ≤ l.replicas) × (l.ops.items ++ replicas_ops l.made (l.replicas - l.made) ≡ new_ops l.replicas)

abbrev pub decreases-replicas : goal.decreases-replicas
decreases-replicas l = l.replicas - l.made
