use Rattle.std.proofs.Common.{◌≡◌, ℕ, ◌<◌, List, length, set, get_or, sym, ap, subst, ◌∙◌}
use Rattle.rmt_events.specs.Views.{Table}
use Rattle.rmt_table_model.specs.Held.{Held}
use Rattle.rmt_table.specs.TableTrees.{table_at}
use Rattle.rmt_shared.specs.SharedTables.{logs_of, views_of}
use Rattle.rmt_shared.proofs.NamedLemmas.{map-set, set-same}
use Rattle.rmt_shared.proofs.CallLemmas.{seen-follows, tables-still}
use Rattle.rmt_shared.proofs.shared_tables.SharedTables.pull.Goals as goal

-- the log is as it was
logs-stay : (tables : List Held) (k : ℕ) (old new : Held) → k < length tables → old ≡ get_or tables k old → table_at new ≡ table_at old → logs_of (set tables k new) ≡ logs_of tables
logs-stay tables k old new h at seen = map-set (λ (x : Held). x.log) tables k new ∙ set-same (λ (x : Held). x.log) tables k old new h at (ap (λ (t : Table). t.log) seen)

pub invariant_of-self-2 : goal.invariant_of-self-2
invariant_of-self-2 g c =
    let h = subst (λ (ts : List Held). c.args.table < length ts) (sym c.self.view_is) c.requires.table in
    tables-still g.N.Naming.tables g.N.Naming.replicas g.N.Naming.offered c.self.inside.tables.items c.self.inside.entries.total c.args.table c.index_mut-tree.result.now c.pull.new.tree c.self.invariant h c.index_mut-tree.ensures.value
    (seen-follows (g.N.Naming.offered c.args.table) c.index_mut-tree.result.now c.pull.new.tree c.pull.ensures.row c.pull.ensures.replicas c.pull.ensures.seen)

pub returns-clause-logs : goal.returns-clause-logs
returns-clause-logs g c =
    logs-stay c.self.inside.tables.items c.args.table c.index_mut-tree.result.now c.pull.new.tree (subst (λ (ts : List Held). c.args.table < length ts) (sym c.self.view_is) c.requires.table) c.index_mut-tree.ensures.value c.pull.ensures.seen
    ∙ ap logs_of c.self.view_is

pub returns-clause-seen : goal.returns-clause-seen
returns-clause-seen g c =
    map-set table_at c.self.inside.tables.items c.args.table c.pull.new.tree
    ∙ (set-same table_at c.self.inside.tables.items c.args.table c.index_mut-tree.result.now c.pull.new.tree (subst (λ (ts : List Held). c.args.table < length ts) (sym c.self.view_is) c.requires.table) c.index_mut-tree.ensures.value c.pull.ensures.seen
    ∙ ap views_of c.self.view_is)
