use Rattle.rmt_table.proofs.Sessions.{session-at, told-now}
use Rattle.rmt_table.specs.contracts.table_tree.TableTree.{the_view}
use Rattle.rmt_table.proofs.table_tree.TableTree.is_open.Goals as goal

pub returns : goal.returns
returns c =
    told-now (the_view c.self.inside) c.self.inside.log.tokens _ c.self.invariant c.args.self.now c.self.view_is c.args.replica c.requires.here c.index.result.now c.is_some.result
    (session-at (the_view c.self.inside) c.self.inside.log.tokens _ c.self.invariant c.args.self.now c.self.view_is c.args.replica c.requires.here c.from.result c.index.result.now c.from.ensures c.index.ensures) c.is_some.ensures
