use Rattle.std.specs.Prelude.{◌↔◌, IsTrue}
use Rattle.rmt_events.specs.TableCalls.{IsLocked}
use Rattle.rmt_table.specs.TableTrees.{table_at}
use Rattle.rmt_shared.proofs.CallLemmas.{has-table}
use Rattle.rmt_shared.proofs.shared_tables.SharedTables.has_lock.Goals as goal

pub returns : goal.returns
returns g c =
    has-table c.self.inside.tables.items c.args.self.now c.self.view_is c.args.table c.index.result.now c.index.ensures (λ t. IsTrue c.in_ok-held.held ↔ IsLocked (table_at t).locks c.args.lock.now.id.partition c.args.lock.now.number) c.in_ok-held.ensures
