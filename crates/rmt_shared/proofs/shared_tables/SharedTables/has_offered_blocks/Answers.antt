use Rattle.std.proofs.Common.{subst}
use Rattle.rmt_shared.specs.SharedTables.{HaveBlocks}
use Rattle.rmt_shared.proofs.shared_tables.SharedTables.has_offered_blocks.Goals as goal

pub returns : goal.returns
returns g c =
    subst (HaveBlocks g.N.Naming.offered) c.self.view_is c.self.invariant.blocks
