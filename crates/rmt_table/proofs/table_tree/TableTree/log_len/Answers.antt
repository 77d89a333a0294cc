use Rattle.std.proofs.Common.{arith, refl}
use Rattle.rmt_table.proofs.LengthLemmas.{tokens-few}
use Rattle.rmt_table.specs.contracts.table_tree.TableTree.{the_view}
use Rattle.rmt_table.proofs.table_tree.TableTree.log_len.Goals as goal

pub overflow_cast-result : goal.overflow_cast-result
overflow_cast-result c =
    let few = tokens-few (the_view c.self.inside) c.self.inside.log.tokens c.self.inside.log.tokens _ c.self.invariant refl in
    let len = c.len.ensures in
    omega (arith, few, len)
