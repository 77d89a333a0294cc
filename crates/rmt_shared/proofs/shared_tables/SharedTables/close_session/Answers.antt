use Rattle.std.proofs.Common.{◌<◌, List, length, sym, subst}
use Rattle.rmt_events.specs.TableCalls.{Closes}
use Rattle.rmt_table_model.specs.Held.{Held}
use Rattle.rmt_table.specs.TableTrees.{table_at}
use Rattle.rmt_shared.proofs.CallLemmas.{close-follows, tables-still, here-at, changed}
use Rattle.rmt_shared.proofs.shared_tables.SharedTables.close_session.Goals as goal

pub close-requires : goal.close-requires
close-requires g c =
    let h = subst (λ (ts : List Held). c.args.table < length ts) (sym c.self.view_is) c.requires.table in
    record { here = here-at g.N.Naming.replicas c.self.inside.tables.items c.args.table c.args.replica c.index_mut.result.now c.self.invariant.sessions h c.index_mut.ensures.value c.requires.here }

pub invariant_of-self : goal.invariant_of-self
invariant_of-self g c =
    let h = subst (λ (ts : List Held). c.args.table < length ts) (sym c.self.view_is) c.requires.table in
    tables-still g.N.Naming.tables g.N.Naming.replicas g.N.Naming.offered c.self.inside.tables.items c.self.inside.entries.total c.args.table c.index_mut.result.now c.close.new.self c.self.invariant h c.index_mut.ensures.value
    (close-follows (g.N.Naming.offered c.args.table) c.index_mut.result.now c.close.new.self c.close.ensures.row c.close.ensures.replicas c.args.replica c.close.ensures.closes)

pub returns : goal.returns
returns g c =
    record { closes = changed c.self.inside.tables.items c.args.self.now c.self.view_is c.args.table c.index_mut.result.now c.index_mut.ensures.value (λ t u. Closes (table_at t) c.args.replica (table_at u)) c.close.new.self c.close.ensures.closes }
