use Rattle.std.proofs.Common.{◌<◌, List, length, sym, subst}
use Rattle.std.proofs.lemmas.Result.{err_from_is_err_and}
use Rattle.std.specs.Prelude.{IfSome}
use Rattle.rmt_events.specs.Clusters.{values_of}
use Rattle.rmt_events.specs.TableCalls.{Commits}
use Rattle.rmt_table_model.specs.Held.{Held}
use Rattle.rmt_table.specs.TableTrees.{table_at, AfterNoCommit}
use Rattle.rmt_table.specs.Causes.{commit_cause}
use Rattle.rmt_table.specs.Refusals.{NoCommit}
use Rattle.rmt_shared.specs.ClientCalls.{AcceptsBlock}
use Rattle.rmt_shared.proofs.CallLemmas.{accepted-follows, no-commit-follows, tables-with, tables-still, here-at, changed, has-cause}
use Rattle.rmt_shared.proofs.shared_tables.SharedTables.commit_insert.Goals as goal

pub commit_insert-requires-clause-here : goal.commit_insert-requires-clause-here
commit_insert-requires-clause-here g c =
    let h = subst (λ (ts : List Held). c.args.table < length ts) (sym c.self.view_is) c.requires.table in
    here-at g.N.Naming.replicas c.self.inside.tables.items c.args.table c.args.lock.now.replica c.index_mut-tree.result.now c.self.invariant.sessions h c.index_mut-tree.ensures.value c.requires.here

pub invariant_of-self : goal.invariant_of-self
invariant_of-self g c =
    let h = subst (λ (ts : List Held). c.args.table < length ts) (sym c.self.view_is) c.requires.table in
    tables-still g.N.Naming.tables g.N.Naming.replicas g.N.Naming.offered c.self.inside.tables.items c.self.inside.entries.total c.args.table c.index_mut-tree.result.now c.commit_insert.new.self c.self.invariant h c.index_mut-tree.ensures.value
    (no-commit-follows (g.N.Naming.offered c.args.table) c.index_mut-tree.result.now c.commit_insert.new.self c.commit_insert.ensures.row c.commit_insert.ensures.replicas c.args.lock.now c.in_err-commit_insert.field-0.0 c.in_err-commit_insert.ensures.err)

pub returns-in_err-commit_insert-clause-refused : goal.returns-in_err-commit_insert-clause-refused
returns-in_err-commit_insert-clause-refused g c =
    let p = err_from_is_err_and c.from_residual.result c.from_residual.ensures.1 in
    rw (p.1, p.2) (has-cause c.self.inside.tables.items c.args.self.now c.self.view_is c.args.table c.index_mut-tree.result.now c.index_mut-tree.ensures.value (commit_cause c.in_err-commit_insert.field-0.0) (λ t why. NoCommit (table_at t) c.args.lock.now c.args.need (values_of t.schema c.args.block.now.rows) why)
    (subst (λ v. IfSome (commit_cause c.in_err-commit_insert.field-0.0) (NoCommit (table_at c.index_mut-tree.result.now) c.args.lock.now c.args.need v)) c.values_of-values.ensures c.in_err-commit_insert.ensures.refused))

pub returns-in_err-commit_insert-clause-err : goal.returns-in_err-commit_insert-clause-err
returns-in_err-commit_insert-clause-err g c =
    let p = err_from_is_err_and c.from_residual.result c.from_residual.ensures.1 in
    rw (p.1, p.2) (changed c.self.inside.tables.items c.args.self.now c.self.view_is c.args.table c.index_mut-tree.result.now c.index_mut-tree.ensures.value (λ t u. AfterNoCommit t c.args.lock.now c.in_err-commit_insert.field-0.0 u) c.commit_insert.new.self c.in_err-commit_insert.ensures.err)

pub invariant_of-self-2 : goal.invariant_of-self-2
invariant_of-self-2 g c =
    let h = subst (λ (ts : List Held). c.args.table < length ts) (sym c.self.view_is) c.requires.table in
    tables-with g.N.Naming.tables g.N.Naming.replicas g.N.Naming.offered c.self.inside.tables.items c.self.inside.entries.total 1 c.add.new.self.total c.args.table c.index_mut-tree.result.now c.commit_insert.new.self c.self.invariant h c.index_mut-tree.ensures.value
    (accepted-follows (g.N.Naming.offered c.args.table) c.index_mut-tree.result.now c.commit_insert.new.self c.commit_insert.ensures.row c.commit_insert.ensures.replicas c.args.lock.now c.args.need c.args.block.now c.values_of-values.result c.requires.id c.values_of-values.ensures c.requires.offered c.in_ok-commit_insert.ensures.commits) c.add.ensures.total

pub returns-clause-ok : goal.returns-clause-ok
returns-clause-ok g c =
    changed c.self.inside.tables.items c.args.self.now c.self.view_is c.args.table c.index_mut-tree.result.now c.index_mut-tree.ensures.value (λ t u. AcceptsBlock c.args.lock.now c.args.need c.args.block.now t u) c.commit_insert.new.self (record { quorum = c.in_ok-commit_insert.ensures.has_quorum; commits = subst (λ v. Commits (table_at c.index_mut-tree.result.now) c.args.lock.now.id.partition c.args.lock.now.number c.args.lock.now.id.digest c.args.lock.now.replica c.args.need v (table_at c.commit_insert.new.self)) c.values_of-values.ensures c.in_ok-commit_insert.ensures.commits })
