use Rattle.std.proofs.Common.{arith}
use Rattle.rmt_table_model.specs.Nodes.{new_ops}
use Rattle.rmt_table.proofs.Laid.{one-more, none-more}
use Rattle.rmt_table.proofs.layout.new_ops.Goals as goal

pub replicas-preserved : goal.replicas-preserved
replicas-preserved c = let l = c.replicas-test.true in
    (omega (arith, l), one-more c.replicas.made c.args.replicas c.replicas.ops.items c.push_replica.new.ops.items (new_ops c.args.replicas) l c.replicas.invariant.1 c.in_ok-push_replica.ensures)

pub returns : goal.returns
returns c = none-more c.replicas.made c.args.replicas c.replicas.ops.items (new_ops c.args.replicas) c.replicas.invariant.0 c.replicas-test.false c.replicas.invariant.1
