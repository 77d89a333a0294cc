use Rattle.std.proofs.Common.{◌<◌, List, length, sym, subst}
use Rattle.std.specs.Prelude.{◌↔◌, IsTrue}
use Rattle.rmt_model.specs.Words.{Has}
use Rattle.rmt_table_model.specs.Held.{Held}
use Rattle.rmt_table.specs.TableTrees.{table_at}
use Rattle.rmt_shared.proofs.CallLemmas.{here-at, has-table}
use Rattle.rmt_shared.proofs.shared_tables.SharedTables.is_open.Goals as goal

pub is_open-requires : goal.is_open-requires
is_open-requires g c =
    let h = subst (λ (ts : List Held). c.args.table < length ts) (sym c.self.view_is) c.requires.table in
    record { here = here-at g.N.Naming.replicas c.self.inside.tables.items c.args.table c.args.replica c.index.result.now c.self.invariant.sessions h c.index.ensures c.requires.here }

pub returns : goal.returns
returns g c =
    has-table c.self.inside.tables.items c.args.self.now c.self.view_is c.args.table c.index.result.now c.index.ensures (λ t. IsTrue c.is_open.result ↔ Has (table_at t).sessions c.args.replica) c.is_open.ensures
