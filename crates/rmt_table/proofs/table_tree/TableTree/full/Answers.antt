use Rattle.rmt_table.proofs.Allocated.{full-partitions, full-numbers, full-new, full-old}
use Rattle.rmt_table.specs.contracts.table_tree.TableTree.{the_view}
use Rattle.rmt_table.proofs.table_tree.TableTree.full.Goals as goal

pub returns-then-partitions-ge1024 : goal.returns-then-partitions-ge1024
returns-then-partitions-ge1024 c =
    full-partitions (the_view c.self.inside) c.args.self.now c.self.view_is c.args.id.now.partition c.number.result c.number.ensures c.in_default.is c.len-partitions.result c.len-partitions.ensures.len c.if-partitions-ge1024.true

pub returns-in_default : goal.returns-in_default
returns-in_default c =
    full-new (the_view c.self.inside) c.args.self.now c.self.view_is c.args.id.now.partition c.number.result c.number.ensures c.in_default.is c.len-partitions.result c.len-partitions.ensures.len c.if-partitions-ge1024.false c.requires.full c.no_more_entries.result c.no_more_entries.ensures

pub returns-then-number-ge65536 : goal.returns-then-number-ge65536
returns-then-number-ge65536 c =
    full-numbers (the_view c.self.inside) c.args.self.now c.self.view_is c.self.invariant.held c.args.id.now.partition c.number.result c.number.ensures c.in-Some.number c.in-Some.is c.if-number-ge65536.true c.from.result c.from.ensures

pub returns : goal.returns
returns c =
    full-old (the_view c.self.inside) c.args.self.now c.self.view_is c.self.invariant.held c.args.id.now.partition c.number.result c.number.ensures c.in-Some.number c.in-Some.is c.if-number-ge65536.false c.requires.full c.no_more_entries-2.result c.no_more_entries-2.ensures
