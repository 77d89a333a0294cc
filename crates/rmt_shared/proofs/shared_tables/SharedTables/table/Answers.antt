use Rattle.std.proofs.Common.{◌<◌, List, length, sym, subst}
use Rattle.rmt_table_model.specs.Held.{Held}
use Rattle.rmt_shared.proofs.NamedLemmas.{sessions-at}
use Rattle.rmt_shared.proofs.BlockLemmas.{blocks-at}
use Rattle.rmt_shared.proofs.CallLemmas.{named-at}
use Rattle.rmt_shared.proofs.shared_tables.SharedTables.table.Goals as goal

pub returns-clause-named : goal.returns-clause-named
returns-clause-named g c =
    let h = subst (λ (ts : List Held). c.args.place < length ts) (sym c.self.view_is) c.requires.place in
    named-at g.N.Naming.tables c.self.inside.tables.items c.args.place c.index.result.now c.self.invariant.are_named h c.index.ensures

pub returns-clause-sessions : goal.returns-clause-sessions
returns-clause-sessions g c =
    let h = subst (λ (ts : List Held). c.args.place < length ts) (sym c.self.view_is) c.requires.place in
    sessions-at g.N.Naming.replicas c.self.inside.tables.items c.args.place c.index.result.now c.self.invariant.sessions h c.index.ensures

pub returns-clause-blocks : goal.returns-clause-blocks
returns-clause-blocks g c =
    let h = subst (λ (ts : List Held). c.args.place < length ts) (sym c.self.view_is) c.requires.place in
    blocks-at g.N.Naming.offered c.self.inside.tables.items c.args.place c.index.result.now h c.index.ensures c.self.invariant.blocks
