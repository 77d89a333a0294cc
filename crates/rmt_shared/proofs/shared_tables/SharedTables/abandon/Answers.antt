use Rattle.std.proofs.Common.{◌<◌, List, length, sym, subst}
use Rattle.std.specs.Prelude.{◌↔◌, IsTrue}
use Rattle.rmt_events.specs.TableCalls.{IsLocked, Unlocks}
use Rattle.rmt_table_model.specs.Held.{Held}
use Rattle.rmt_table.specs.TableTrees.{table_at}
use Rattle.rmt_shared.proofs.CallLemmas.{unlock-follows, tables-still, changed, has-table}
use Rattle.rmt_shared.proofs.shared_tables.SharedTables.abandon.Goals as goal

pub invariant_of-self-2 : goal.invariant_of-self-2
invariant_of-self-2 g c =
    let h = subst (λ (ts : List Held). c.args.table < length ts) (sym c.self.view_is) c.requires.table in
    tables-still g.N.Naming.tables g.N.Naming.replicas g.N.Naming.offered c.self.inside.tables.items c.self.inside.entries.total c.args.table c.index_mut.result.now c.abandon.new.self c.self.invariant h c.index_mut.ensures.value
    (unlock-follows (g.N.Naming.offered c.args.table) c.index_mut.result.now c.abandon.new.self c.abandon.ensures.row c.abandon.ensures.replicas c.args.lock.now.id.partition c.args.lock.now.number c.in_ok-there.ensures.unlocks)

pub returns-clause-there : goal.returns-clause-there
returns-clause-there g c =
    has-table c.self.inside.tables.items c.args.self.now c.self.view_is c.args.table c.index_mut.result.now c.index_mut.ensures.value (λ t. IsTrue c.in_ok-there.there ↔ IsLocked (table_at t).locks c.args.lock.now.id.partition c.args.lock.now.number) c.in_ok-there.ensures.there

pub returns-clause-ok : goal.returns-clause-ok
returns-clause-ok g c =
    changed c.self.inside.tables.items c.args.self.now c.self.view_is c.args.table c.index_mut.result.now c.index_mut.ensures.value (λ t u. Unlocks (table_at t) c.args.lock.now.id.partition c.args.lock.now.number (table_at u)) c.abandon.new.self c.in_ok-there.ensures.unlocks
