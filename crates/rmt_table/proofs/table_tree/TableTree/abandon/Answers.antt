use Rattle.std.proofs.Common.{refl}
use Rattle.rmt_table.proofs.Unlocked.{lock-fine, lock-gone, lock-seen, unlocks-none, unlocked-tree, unlocked-is}
use Rattle.rmt_table.specs.contracts.table_tree.TableTree.{the_view}
use Rattle.rmt_table.proofs.table_tree.TableTree.abandon.Goals as goal

pub returns-then-is_none-clause-there : goal.returns-then-is_none-clause-there
returns-then-is_none-clause-there c = (
  λ t. absurd (cc),
  λ l.
      absurd (lock-gone (the_view c.self.inside) c.self.inside.log.tokens _ c.self.invariant c.args.self.now c.self.view_is c.args.lock.now.id.partition c.args.lock.now.number c.path.ensures.in_range c.in_ok-path.path c.in_ok-path.ensures.path c.get.result c.get.ensures c.is_none.result c.is_none.ensures c.if-is_none.true l),
)

pub returns-then-is_none-clause-unlocks : goal.returns-then-is_none-clause-unlocks
returns-then-is_none-clause-unlocks c =
    unlocks-none (the_view c.self.inside) c.self.inside.log.tokens _ c.self.invariant c.args.self.now c.self.view_is c.args.lock.now.id.partition c.args.lock.now.number c.path.ensures.in_range c.in_ok-path.path c.in_ok-path.ensures.path c.get.result c.get.ensures c.is_none.result c.is_none.ensures c.if-is_none.true

pub invariant_of-self-2 : goal.invariant_of-self-2
invariant_of-self-2 c =
    unlocked-tree (the_view c.self.inside) c.self.inside.log.tokens _ c.self.invariant c.args.self.now c.self.view_is c.args.lock.now.id.partition c.args.lock.now.number c.path.ensures.in_range c.in_ok-path.path c.in_ok-path.ensures.path c.get.result c.get.ensures c.is_none.result c.is_none.ensures
    c.if-is_none.false c.delete.new.tree c.in_ok-delete.ensures.ok

pub returns-clause-there : goal.returns-clause-there
returns-clause-there c = (
  λ t.
      lock-seen (the_view c.self.inside) c.self.inside.log.tokens _ c.self.invariant c.args.self.now c.self.view_is c.args.lock.now.id.partition c.args.lock.now.number c.path.ensures.in_range c.in_ok-path.path c.in_ok-path.ensures.path c.get.result c.get.ensures c.is_none.result c.is_none.ensures c.if-is_none.false,
  λ l. refl,
)

pub returns-clause-unlocks : goal.returns-clause-unlocks
returns-clause-unlocks c =
    (unlocked-is (the_view c.self.inside) c.self.inside.log.tokens _ c.self.invariant c.args.self.now c.self.view_is c.args.lock.now.id.partition c.args.lock.now.number c.path.ensures.in_range c.in_ok-path.path c.in_ok-path.ensures.path c.get.result c.get.ensures c.is_none.result c.is_none.ensures
    c.if-is_none.false c.delete.new.tree c.in_ok-delete.ensures.ok).seen

pub returns-clause-ops : goal.returns-clause-ops
returns-clause-ops c =
    (unlocked-is (the_view c.self.inside) c.self.inside.log.tokens _ c.self.invariant c.args.self.now c.self.view_is c.args.lock.now.id.partition c.args.lock.now.number c.path.ensures.in_range c.in_ok-path.path c.in_ok-path.ensures.path c.get.result c.get.ensures c.is_none.result c.is_none.ensures
    c.if-is_none.false c.delete.new.tree c.in_ok-delete.ensures.ok).tree

pub delete-requires : goal.delete-requires
delete-requires c = record { fine = lock-fine (the_view c.self.inside) c.self.inside.log.tokens _ c.self.invariant c.args.self.now c.self.view_is c.args.lock.now.id.partition c.args.lock.now.number c.path.ensures.in_range c.in_ok-path.path c.in_ok-path.ensures.path c.get.result c.get.ensures c.is_none.result c.is_none.ensures c.if-is_none.false }
