use Rattle.std.proofs.Common.{subst, refl, Option}
use Rattle.std.specs.Prelude.{IfSome}
use Rattle.rmt_table_model.specs.Held.{Held, holders_in}
use Rattle.rmt_table_model.specs.Numbers.{IsLocked}
use Rattle.rmt_table.specs.declared.commit_error.CommitError.{CommitError}
use Rattle.rmt_table.specs.Refusals.{TakesLock}
use Rattle.rmt_table.proofs.Unlocked.{lock-fine, lock-gone, lock-seen, lock-held, unlocked-tree, unlocked-is}
use Rattle.rmt_table.proofs.Committed.{after-refusal}
use Rattle.rmt_table.specs.contracts.table_tree.TableTree.{the_view}
use Rattle.rmt_table.proofs.table_tree.TableTree.commit_insert.Goals as goal

pub returns-then-is_none-clause-refused : goal.returns-then-is_none-clause-refused
returns-then-is_none-clause-refused c = (refl, lock-gone (the_view c.self.inside) c.self.inside.log.tokens _ c.self.invariant c.args.self.now c.self.view_is c.args.lock.now.id.partition c.args.lock.now.number c.path.ensures.in_range c.in_ok-path.path c.in_ok-path.ensures.path c.get.result c.get.ensures c.is_none.result c.is_none.ensures c.if-is_none.true)

pub commit_refusal-requires : goal.commit_refusal-requires
commit_refusal-requires c = record { locked = lock-seen (the_view c.self.inside) c.self.inside.log.tokens _ c.self.invariant c.args.self.now c.self.view_is c.args.lock.now.id.partition c.args.lock.now.number c.path.ensures.in_range c.in_ok-path.path c.in_ok-path.ensures.path c.get.result c.get.ensures c.is_none.result c.is_none.ensures c.if-is_none.false }

pub invariant_of-self-in-Some : goal.invariant_of-self-in-Some
invariant_of-self-in-Some c =
    unlocked-tree (the_view c.self.inside) c.self.inside.log.tokens _ c.self.invariant c.args.self.now c.self.view_is c.args.lock.now.id.partition c.args.lock.now.number c.path.ensures.in_range c.in_ok-path.path c.in_ok-path.ensures.path c.get.result c.get.ensures c.is_none.result c.is_none.ensures
    c.if-is_none.false c.delete.new.tree c.in_ok-delete.ensures.ok

pub returns-in-Some-clause-err : goal.returns-in-Some-clause-err
returns-in-Some-clause-err c =
    after-refusal c.args.self.now _ c.args.lock.now c.in-Some.refused (subst (λ (o : Option CommitError). IfSome o TakesLock) c.in-Some.is c.in_ok-refused.ensures.takes) (unlocked-is (the_view c.self.inside) c.self.inside.log.tokens _ c.self.invariant c.args.self.now c.self.view_is c.args.lock.now.id.partition c.args.lock.now.number c.path.ensures.in_range c.in_ok-path.path c.in_ok-path.ensures.path c.get.result c.get.ensures c.is_none.result c.is_none.ensures
    c.if-is_none.false c.delete.new.tree c.in_ok-delete.ensures.ok)

pub delete-requires : goal.delete-requires
delete-requires c = record { fine = lock-fine (the_view c.self.inside) c.self.inside.log.tokens _ c.self.invariant c.args.self.now c.self.view_is c.args.lock.now.id.partition c.args.lock.now.number c.path.ensures.in_range c.in_ok-path.path c.in_ok-path.ensures.path c.get.result c.get.ensures c.is_none.result c.is_none.ensures c.if-is_none.false }

pub accept-requires-clause-locked : goal.accept-requires-clause-locked
accept-requires-clause-locked c =
    subst (λ (w : Held). IsLocked (holders_in w.tree) c.args.lock.now.id.partition c.args.lock.now.number) c.self.view_is
    (lock-held (the_view c.self.inside) c.self.inside.log.tokens _ c.self.invariant c.args.self.now c.self.view_is c.args.lock.now.id.partition c.args.lock.now.number c.path.ensures.in_range c.in_ok-path.path c.in_ok-path.ensures.path c.get.result c.get.ensures c.is_none.result c.is_none.ensures c.if-is_none.false)
