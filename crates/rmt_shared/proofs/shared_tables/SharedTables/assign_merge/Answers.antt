use Rattle.std.proofs.Common.{rules, ◌≡◌, ◌<◌, inl, inr, List, length, set, get_or, sym, subst, ap, ◌∙◌}
use Rattle.std.specs.Prelude.{MatchBool}
use Rattle.rmt_table_model.specs.Held.{Held}
use Rattle.rmt_events.specs.LogEvents.{AreMergeable}
use Rattle.rmt_shared.specs.SharedTables.{GainsMerge, AppendsMerge}
use Rattle.rmt_shared.proofs.AppendLemmas.{changes-one}
use Rattle.rmt_shared.proofs.CallLemmas.{merge-follows, tables-still}
use Rattle.rmt_shared.proofs.shared_tables.SharedTables.assign_merge.Goals as goal

pub invariant_of-self-2 : goal.invariant_of-self-2
invariant_of-self-2 g c =
    let h = subst (λ (ts : List Held). c.args.table < length ts) (sym c.self.view_is) c.requires.table in
    tables-still g.N.Naming.tables g.N.Naming.replicas g.N.Naming.offered c.self.inside.tables.items c.self.inside.entries.total c.args.table c.index_mut-tree.result.now c.merge_in.new.tree c.self.invariant h c.index_mut-tree.ensures.value
    (merge-follows (g.N.Naming.offered c.args.table) c.index_mut-tree.result.now c.merge_in.new.tree c.merge_in.ensures.row c.merge_in.ensures.sessions c.in_ok-done.done c.args.sources.now c.in_ok-done.ensures.ok)

pub returns-clause-ok : goal.returns-clause-ok
returns-clause-ok g c =
    let h = subst (λ (ts : List Held). c.args.table < length ts) (sym c.self.view_is) c.requires.table in
    subst (λ (ts : List Held). MatchBool c.in_ok-done.done (AppendsMerge ts c.args.table c.args.sources.now (set c.self.inside.tables.items c.args.table c.merge_in.new.tree)) (set c.self.inside.tables.items c.args.table c.merge_in.new.tree ≡ ts)) c.self.view_is
    (changes-one c.in_ok-done.done (λ t u. GainsMerge t c.args.sources.now u) c.self.inside.tables.items c.args.table c.index_mut-tree.result.now c.merge_in.new.tree h c.index_mut-tree.ensures.value c.in_ok-done.ensures.ok)

pub returns-then-not-meet-clause-refused : goal.returns-then-not-meet-clause-refused
returns-then-not-meet-clause-refused g c = λ e.
    let short : length c.index_mut-tree.result.now.log < length c.args.copy.now.log = search rules in
    record { table = c.index_mut-tree.result.now; is = c.index_mut-tree.ensures.value ∙ ap (λ (ts : List Held). get_or ts c.args.table c.index_mut-tree.result.now) c.self.view_is; why = inl short }

pub returns-then-not-are_mergeable-clause-refused : goal.returns-then-not-are_mergeable-clause-refused
returns-then-not-are_mergeable-clause-refused g c = λ e.
    let no : AreMergeable c.args.copy.now.log c.args.sources.now → ⊥ = search rules in
    record { table = c.index_mut-tree.result.now; is = c.index_mut-tree.ensures.value ∙ ap (λ (ts : List Held). get_or ts c.args.table c.index_mut-tree.result.now) c.self.view_is; why = inr (inl no) }

pub returns-clause-refused : goal.returns-clause-refused
returns-clause-refused g c = λ e.
    record { table = c.index_mut-tree.result.now; is = c.index_mut-tree.ensures.value ∙ ap (λ (ts : List Held). get_or ts c.args.table c.index_mut-tree.result.now) c.self.view_is; why = inr (inr (c.in_ok-done.ensures.refused e)) }
