use Rattle.std.proofs.Common.{ap}
use Rattle.std.specs.Prelude.{⊤}
use Rattle.rmt_events.specs.Views.{Table}
use Rattle.rmt_shared.proofs.NewTables.{no-blocks}
use Rattle.rmt_shared.proofs.tests.table_of.Goals as goal

pub returns-clause-blocks : goal.returns-clause-blocks
returns-clause-blocks c = no-blocks (λ b. ⊤) c.in_ok-table.table (ap (λ (t : Table). t.log) c.in_ok-table.ensures.table) (ap (λ (t : Table). t.values) c.in_ok-table.ensures.table)
