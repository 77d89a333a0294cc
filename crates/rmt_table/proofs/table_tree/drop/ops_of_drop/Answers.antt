use Rattle.rmt_table_model.specs.Nodes.{number_ops}
use Rattle.rmt_table.proofs.Drops.{rest-behind}
use Rattle.rmt_table.proofs.table_tree.drop.ops_of_drop.Goals as goal

pub returns : goal.returns
returns c next holders numbers exists = (
  c.in_ok-removals.removals.items,
  c.in_ok-removals.ensures next holders numbers,
  rest-behind c.in_ok-ops.ops.items c.in_ok-removals.removals.items c.append.new.self.items c.push.new.self.items (number_ops c.args.partition c.args.number) c.in_ok-gone.gone.items _ c.append-2.new.self.items _ _ c.in_ok-push.ensures.items c.in_ok-append.ensures.items
      (c.in_ok-ops.ensures next holders c.args.number numbers exists) c.in_ok-write.ensures c.in_ok-gone.ensures c.in_ok-append-2.ensures.items,
)
