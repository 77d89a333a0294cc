use Rattle.std.proofs.Common.{◌<◌, List, length, sym, subst}
use Rattle.rmt_table_model.specs.Held.{Held}
use Rattle.rmt_shared.proofs.CallLemmas.{noted-follows, noted-in, tables-still, here-at}
use Rattle.rmt_shared.proofs.shared_tables.SharedTables.note_quorum.Goals as goal

pub note_quorum-requires : goal.note_quorum-requires
note_quorum-requires g c =
    let h = subst (λ (ts : List Held). c.args.table < length ts) (sym c.self.view_is) c.requires.table in
    record { here = here-at g.N.Naming.replicas c.self.inside.tables.items c.args.table c.args.replica c.index_mut.result.now c.self.invariant.sessions h c.index_mut.ensures.value c.requires.here }

pub invariant_of-self-2 : goal.invariant_of-self-2
invariant_of-self-2 g c =
    let h = subst (λ (ts : List Held). c.args.table < length ts) (sym c.self.view_is) c.requires.table in
    tables-still g.N.Naming.tables g.N.Naming.replicas g.N.Naming.offered c.self.inside.tables.items c.self.inside.entries.total c.args.table c.index_mut.result.now c.note_quorum.new.self c.self.invariant h c.index_mut.ensures.value
    (noted-follows (g.N.Naming.offered c.args.table) c.index_mut.result.now c.note_quorum.new.self c.note_quorum.ensures.row c.note_quorum.ensures.replicas c.args.replica c.args.part.now c.in_ok-noted.noted c.in_ok-noted.ensures.noted)

pub returns-clause-noted : goal.returns-clause-noted
returns-clause-noted g c =
    let h = subst (λ (ts : List Held). c.args.table < length ts) (sym c.self.view_is) c.requires.table in
    noted-in c.self.inside.tables.items c.args.self.now c.self.view_is c.args.table c.index_mut.result.now c.index_mut.ensures.value h c.note_quorum.new.self c.args.replica c.args.part.now c.in_ok-noted.noted c.in_ok-noted.ensures.noted
