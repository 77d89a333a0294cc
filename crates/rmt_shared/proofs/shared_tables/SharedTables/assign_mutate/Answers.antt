use Rattle.std.proofs.Common.{rules, ◌≡◌, ◌<◌, inl, inr, List, length, set, get_or, sym, subst, ap, ◌∙◌}
use Rattle.std.specs.Prelude.{MatchBool}
use Rattle.rmt_table_model.specs.Held.{Held}
use Rattle.rmt_events.specs.LogEvents.{IsMutable}
use Rattle.rmt_shared.specs.SharedTables.{GainsMutate, AppendsMutate}
use Rattle.rmt_shared.proofs.AppendLemmas.{changes-one}
use Rattle.rmt_shared.proofs.CallLemmas.{mutate-follows, tables-still}
use Rattle.rmt_shared.proofs.shared_tables.SharedTables.assign_mutate.Goals as goal

pub invariant_of-self-2 : goal.invariant_of-self-2
invariant_of-self-2 g c =
    let h = subst (λ (ts : List Held). c.args.table < length ts) (sym c.self.view_is) c.requires.table in
    tables-still g.N.Naming.tables g.N.Naming.replicas g.N.Naming.offered c.self.inside.tables.items c.self.inside.entries.total c.args.table c.index_mut-tree.result.now c.mutate_in.new.tree c.self.invariant h c.index_mut-tree.ensures.value
    (mutate-follows (g.N.Naming.offered c.args.table) c.index_mut-tree.result.now c.mutate_in.new.tree c.mutate_in.ensures.row c.mutate_in.ensures.sessions c.in_ok-done.done c.args.old.now c.args.upto c.in_ok-done.ensures.ok)

pub returns-clause-ok : goal.returns-clause-ok
returns-clause-ok g c =
    let h = subst (λ (ts : List Held). c.args.table < length ts) (sym c.self.view_is) c.requires.table in
    subst (λ (ts : List Held). MatchBool c.in_ok-done.done (AppendsMutate ts c.args.table c.args.old.now c.args.upto (set c.self.inside.tables.items c.args.table c.mutate_in.new.tree)) (set c.self.inside.tables.items c.args.table c.mutate_in.new.tree ≡ ts)) c.self.view_is
    (changes-one c.in_ok-done.done (λ t u. GainsMutate t c.args.old.now c.args.upto u) c.self.inside.tables.items c.args.table c.index_mut-tree.result.now c.mutate_in.new.tree h c.index_mut-tree.ensures.value c.in_ok-done.ensures.ok)

pub returns-then-not-meet-clause-refused : goal.returns-then-not-meet-clause-refused
returns-then-not-meet-clause-refused g c = λ e.
    let short : length c.index_mut-tree.result.now.log < length c.args.copy.now.log = search rules in
    record { table = c.index_mut-tree.result.now; is = c.index_mut-tree.ensures.value ∙ ap (λ (ts : List Held). get_or ts c.args.table c.index_mut-tree.result.now) c.self.view_is; why = inl short }

pub returns-then-not-is_mutable-clause-refused : goal.returns-then-not-is_mutable-clause-refused
returns-then-not-is_mutable-clause-refused g c = λ e.
    let no : IsMutable c.args.copy.now.log c.args.old.now c.args.upto → ⊥ = search rules in
    record { table = c.index_mut-tree.result.now; is = c.index_mut-tree.ensures.value ∙ ap (λ (ts : List Held). get_or ts c.args.table c.index_mut-tree.result.now) c.self.view_is; why = inr (inl no) }

pub returns-clause-refused : goal.returns-clause-refused
returns-clause-refused g c = λ e.
    record { table = c.index_mut-tree.result.now; is = c.index_mut-tree.ensures.value ∙ ap (λ (ts : List Held). get_or ts c.args.table c.index_mut-tree.result.now) c.self.view_is; why = inr (inr (c.in_ok-done.ensures.refused e)) }
