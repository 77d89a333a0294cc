use Rattle.std.proofs.Common.{◌<◌, List, length, sym, subst}
use Rattle.rmt_events.specs.TableCalls.{Opens}
use Rattle.rmt_table_model.specs.Held.{Held}
use Rattle.rmt_table.specs.TableTrees.{table_at}
use Rattle.rmt_shared.proofs.CallLemmas.{open-follows, tables-still, here-at, changed}
use Rattle.rmt_shared.proofs.shared_tables.SharedTables.open_session.Goals as goal

pub open-requires : goal.open-requires
open-requires g c =
    let h = subst (λ (ts : List Held). c.args.table < length ts) (sym c.self.view_is) c.requires.table in
    record { here = here-at g.N.Naming.replicas c.self.inside.tables.items c.args.table c.args.replica c.index_mut.result.now c.self.invariant.sessions h c.index_mut.ensures.value c.requires.here }

pub invariant_of-self-2 : goal.invariant_of-self-2
invariant_of-self-2 g c =
    let h = subst (λ (ts : List Held). c.args.table < length ts) (sym c.self.view_is) c.requires.table in
    tables-still g.N.Naming.tables g.N.Naming.replicas g.N.Naming.offered c.self.inside.tables.items c.self.inside.entries.total c.args.table c.index_mut.result.now c.open.new.self c.self.invariant h c.index_mut.ensures.value
    (open-follows (g.N.Naming.offered c.args.table) c.index_mut.result.now c.open.new.self c.open.ensures.row c.open.ensures.replicas c.args.replica c.in_ok-open.ensures.opens)

pub returns-clause-ok : goal.returns-clause-ok
returns-clause-ok g c =
    changed c.self.inside.tables.items c.args.self.now c.self.view_is c.args.table c.index_mut.result.now c.index_mut.ensures.value (λ t u. Opens (table_at t) c.args.replica (table_at u)) c.open.new.self c.in_ok-open.ensures.opens
