use Rattle.std.proofs.Common.{◌<◌, length, sym, subst}
use Rattle.rmt_known.specs.KnownTables.{Known}
use Rattle.rmt_shared.specs.SharedTables.{name_at}
use Rattle.rmt_pass.specs.Passes.{PassView, IsKnownOf}
use Rattle.rmt_pass.proofs.KnownLemmas.{known-at}
use Rattle.rmt_pass.proofs.pass.Pass.known.Goals as goal

pub returns-clause-of : goal.returns-clause-of
returns-clause-of g c =
    let t : c.args.table < length c.self.inside.tables.items = subst (λ (p : PassView). c.args.table < length p.tables) (sym c.self.view_is) c.requires in
    subst (λ (k : Known). IsKnownOf g.N.Naming.replicas (name_at g.N.Naming.tables c.args.table) k) (sym c.index.ensures) (known-at g.N.Naming.replicas g.N.Naming.tables c.self.inside.tables.items c.args.table c.index.result.now c.self.invariant.known t)
