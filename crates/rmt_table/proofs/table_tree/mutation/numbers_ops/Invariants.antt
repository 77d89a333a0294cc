use Rattle.std.proofs.Common.{◌≡◌, take}
use Rattle.rmt_table_model.specs.Nodes.{numbers_ops}
use Rattle.rmt_table.proofs.table_tree.mutation.numbers_ops.Given as goal

abbrev pub invariant-pairs : goal.invariant-pairs
invariant-pairs l = l.ops.items ≡ numbers_ops (take l.pair-index l.numbers)
