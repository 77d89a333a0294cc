use Rattle.std.proofs.Common.{◌<◌, List, length, sym, subst}
use Rattle.std.proofs.lemmas.Result.{err_from_is_err_and}
use Rattle.rmt_events.specs.TableRefusals.{NoNumber}
use Rattle.rmt_table_model.specs.Held.{Held}
use Rattle.rmt_table.specs.TableTrees.{table_at}
use Rattle.rmt_table.specs.Causes.{allocate_cause}
use Rattle.rmt_shared.specs.ClientCalls.{GivesNumber}
use Rattle.rmt_shared.proofs.CallLemmas.{allocate-follows, tables-still, here-at, changed, has-cause}
use Rattle.rmt_shared.proofs.shared_tables.SharedTables.allocate.Goals as goal

pub allocate-requires : goal.allocate-requires
allocate-requires g c =
    let h = subst (λ (ts : List Held). c.args.table < length ts) (sym c.self.view_is) c.requires.table in
    record { here = here-at g.N.Naming.replicas c.self.inside.tables.items c.args.table c.args.replica c.index_mut.result.now c.self.invariant.sessions h c.index_mut.ensures.value c.requires.here }

pub returns-in_err-lock-clause-refused : goal.returns-in_err-lock-clause-refused
returns-in_err-lock-clause-refused g c =
    let p = err_from_is_err_and c.from_residual.result c.from_residual.ensures.1 in
    rw (p.1, p.2) (has-cause c.self.inside.tables.items c.args.self.now c.self.view_is c.args.table c.index_mut.result.now c.index_mut.ensures.value (allocate_cause c.in_err-lock.field-0.0) (λ t why. NoNumber (table_at t) c.args.replica c.args.id.now.partition c.args.id.now.digest c.args.need why) c.in_err-lock.ensures.refused)

pub invariant_of-self-2 : goal.invariant_of-self-2
invariant_of-self-2 g c =
    let h = subst (λ (ts : List Held). c.args.table < length ts) (sym c.self.view_is) c.requires.table in
    tables-still g.N.Naming.tables g.N.Naming.replicas g.N.Naming.offered c.self.inside.tables.items c.self.inside.entries.total c.args.table c.index_mut.result.now c.allocate.new.self c.self.invariant h c.index_mut.ensures.value
    (allocate-follows (g.N.Naming.offered c.args.table) c.index_mut.result.now c.allocate.new.self c.allocate.ensures.row c.allocate.ensures.replicas c.args.replica c.args.id.now.partition c.args.id.now.digest c.in_ok-lock.lock.number c.in_ok-lock.ensures.allocates)

pub returns-clause-ok : goal.returns-clause-ok
returns-clause-ok g c =
    changed c.self.inside.tables.items c.args.self.now c.self.view_is c.args.table c.index_mut.result.now c.index_mut.ensures.value (λ t u. GivesNumber c.args.replica c.args.id.now c.args.need c.in_ok-lock.lock t u) c.allocate.new.self (record { is = c.in_ok-lock.ensures.lock; quorum = c.in_ok-lock.ensures.has_quorum; allocates = c.in_ok-lock.ensures.allocates })
