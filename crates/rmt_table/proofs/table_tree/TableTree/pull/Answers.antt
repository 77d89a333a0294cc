use Rattle.rmt_table.proofs.Pulls.{pull-fine, pull-kept, pull-seen}
use Rattle.rmt_table.specs.contracts.table_tree.TableTree.{the_view}
use Rattle.rmt_table.proofs.table_tree.TableTree.pull.Goals as goal

pub invariant_of-self-then-index-length : goal.invariant_of-self-then-index-length
invariant_of-self-then-index-length c =
    pull-kept (the_view c.self.inside) c.self.inside.log.tokens _ c.self.invariant c.args.self.now c.self.view_is c.args.replica c.requires.here c.from-place.result c.from-place.ensures
    c.index.result.now c.log_len-length.result c.index.ensures c.log_len-length.ensures c.if-index-length.true c.point.new.tree c.in_ok-point.ensures.ok

pub returns-in_ok-point-clause-seen : goal.returns-in_ok-point-clause-seen
returns-in_ok-point-clause-seen c =
    pull-seen (the_view c.self.inside) c.self.inside.log.tokens _ c.self.invariant c.args.self.now c.self.view_is c.args.replica c.requires.here c.from-place.result c.from-place.ensures
    c.index.result.now c.log_len-length.result c.index.ensures c.log_len-length.ensures c.if-index-length.true c.point.new.tree c.in_ok-point.ensures.ok

pub point-requires : goal.point-requires
point-requires c = record {
  fine = pull-fine (the_view c.self.inside) c.self.inside.log.tokens _ c.self.invariant c.args.self.now c.self.view_is c.args.replica c.requires.here c.from-place.result c.from-place.ensures
      c.index.result.now c.log_len-length.result c.index.ensures c.log_len-length.ensures c.if-index-length.true;
}
