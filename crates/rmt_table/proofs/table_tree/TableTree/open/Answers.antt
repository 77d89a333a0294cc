use Rattle.rmt_table.proofs.Sessions.{session-at, open-fine, none-read, open-same, open-kept, open-opens, open-starts, undone-kept, undone-same}
use Rattle.rmt_table.specs.contracts.table_tree.TableTree.{the_view}
use Rattle.rmt_table.proofs.table_tree.TableTree.open.Goals as goal

pub returns-then-is_some-clause-opens : goal.returns-then-is_some-clause-opens
returns-then-is_some-clause-opens c =
    open-same (the_view c.self.inside) c.self.inside.log.tokens _ c.self.invariant c.args.self.now c.self.view_is c.args.replica c.requires.here c.index.result.now c.is_some.result
    (session-at (the_view c.self.inside) c.self.inside.log.tokens _ c.self.invariant c.args.self.now c.self.view_is c.args.replica c.requires.here c.from-place.result c.index.result.now c.from-place.ensures c.index.ensures) c.is_some.ensures c.if-is_some.true

pub invariant_of-self-in-Ok : goal.invariant_of-self-in-Ok
invariant_of-self-in-Ok c =
    open-kept (the_view c.self.inside) c.self.inside.log.tokens _ c.self.invariant c.args.self.now c.self.view_is c.args.replica c.requires.here
    c.in_ok-session.session.number c.in_ok-session.ensures.number
    (none-read c.index.result.now c.is_some.result
    (session-at (the_view c.self.inside) c.self.inside.log.tokens _ c.self.invariant c.args.self.now c.self.view_is c.args.replica c.requires.here c.from-place.result c.index.result.now c.from-place.ensures c.index.ensures) c.is_some.ensures c.if-is_some.false) c.in_ok-path.path c.in_ok-path.ensures.path c.open_session.new.self c.in_ok-session.ensures.ok
    c.make_active.new.tree c.in-Ok.ensures.ok c.from-place.result c.from-place.ensures

pub invariant_of-self-in-Err : goal.invariant_of-self-in-Err
invariant_of-self-in-Err c =
    undone-kept (the_view c.self.inside) c.self.inside.log.tokens _ c.self.invariant c.args.self.now c.self.view_is c.args.replica c.requires.here
    c.in_ok-session.session.number c.in_ok-session.ensures.number
    (none-read c.index.result.now c.is_some.result
    (session-at (the_view c.self.inside) c.self.inside.log.tokens _ c.self.invariant c.args.self.now c.self.view_is c.args.replica c.requires.here c.from-place.result c.index.result.now c.from-place.ensures c.index.ensures) c.is_some.ensures c.if-is_some.false) c.in_ok-path.path c.in_ok-path.ensures.path c.open_session.new.self c.in_ok-session.ensures.ok
    c.make_active.new.tree c.end_session.new.self c.in-Err.ensures.err c.end_session.ensures.ended

pub returns-in-Ok-clause-opens : goal.returns-in-Ok-clause-opens
returns-in-Ok-clause-opens c =
    open-opens (the_view c.self.inside) c.self.inside.log.tokens _ c.self.invariant c.args.self.now c.self.view_is c.args.replica c.requires.here
    c.in_ok-session.session.number c.in_ok-session.ensures.number
    (none-read c.index.result.now c.is_some.result
    (session-at (the_view c.self.inside) c.self.inside.log.tokens _ c.self.invariant c.args.self.now c.self.view_is c.args.replica c.requires.here c.from-place.result c.index.result.now c.from-place.ensures c.index.ensures) c.is_some.ensures c.if-is_some.false) c.in_ok-path.path c.in_ok-path.ensures.path c.open_session.new.self c.in_ok-session.ensures.ok
    c.make_active.new.tree c.in-Ok.ensures.ok c.from-place.result c.from-place.ensures

pub returns-in-Ok-clause-tree : goal.returns-in-Ok-clause-tree
returns-in-Ok-clause-tree c =
    open-starts (the_view c.self.inside) c.self.inside.log.tokens _ c.self.invariant c.args.self.now c.self.view_is c.args.replica c.requires.here
    c.in_ok-session.session.number c.in_ok-session.ensures.number
    (none-read c.index.result.now c.is_some.result
    (session-at (the_view c.self.inside) c.self.inside.log.tokens _ c.self.invariant c.args.self.now c.self.view_is c.args.replica c.requires.here c.from-place.result c.index.result.now c.from-place.ensures c.index.ensures) c.is_some.ensures c.if-is_some.false) c.in_ok-path.path c.in_ok-path.ensures.path c.open_session.new.self c.in_ok-session.ensures.ok
    c.make_active.new.tree c.in-Ok.ensures.ok c.from-place.result c.from-place.ensures

pub returns-in-Err-clause-err : goal.returns-in-Err-clause-err
returns-in-Err-clause-err c =
    undone-same (the_view c.self.inside) c.self.inside.log.tokens _ c.self.invariant c.args.self.now c.self.view_is c.args.replica c.requires.here
    c.in_ok-session.session.number c.in_ok-session.ensures.number
    (none-read c.index.result.now c.is_some.result
    (session-at (the_view c.self.inside) c.self.inside.log.tokens _ c.self.invariant c.args.self.now c.self.view_is c.args.replica c.requires.here c.from-place.result c.index.result.now c.from-place.ensures c.index.ensures) c.is_some.ensures c.if-is_some.false) c.in_ok-path.path c.in_ok-path.ensures.path c.open_session.new.self c.in_ok-session.ensures.ok
    c.make_active.new.tree c.end_session.new.self c.in-Err.ensures.err c.end_session.ensures.ended

pub make_active-requires : goal.make_active-requires
make_active-requires c = record {
  fine = open-fine (the_view c.self.inside) c.self.inside.log.tokens _ c.self.invariant c.args.self.now c.self.view_is c.args.replica c.requires.here
      c.in_ok-session.session.number c.in_ok-session.ensures.number
      (none-read c.index.result.now c.is_some.result
      (session-at (the_view c.self.inside) c.self.inside.log.tokens _ c.self.invariant c.args.self.now c.self.view_is c.args.replica c.requires.here c.from-place.result c.index.result.now c.from-place.ensures c.index.ensures) c.is_some.ensures c.if-is_some.false) c.in_ok-path.path c.in_ok-path.ensures.path c.open_session.new.self c.in_ok-session.ensures.ok;
}
