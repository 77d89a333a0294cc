use Rattle.std.proofs.Common.{◌≡◌, ◌++◌, take}
use Rattle.rmt_table_model.specs.Nodes.{forget_ops}
use Rattle.rmt_inserts.proofs.drops.without_dropped.Given as goal

abbrev pub invariant-kept : goal.invariant-kept
invariant-kept l = l.all.items ≡ l.fn.ops.items ++ forget_ops l.partition l.below (take l.i l.window.placed)
