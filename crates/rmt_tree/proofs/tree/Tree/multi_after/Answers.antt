use Rattle.std.specs.FinMap as map
use Rattle.std.proofs.Common.{rules, ◌∙◌, ◌≡◌, sym, ap, subst, inr, arith, refl}
use Rattle.rmt_tree.specs.Trees.{TreeView}
use Rattle.rmt_tree.specs.Shapes.{IsShape}
use Rattle.rmt_tree.proofs.ShapeLemmas.{IsShape-after_all}
use Rattle.rmt_tree.specs.Ops.{after_all}
use Rattle.rmt_tree.specs.Drafts.{tree_of}
use Rattle.rmt_tree.specs.SessionTracker.{TrackOwned}
use Rattle.std.specs.Prelude.{[]}
use Rattle.rmt_tree.proofs.TreeLemmas.{prepared_tree, IsKept-prepared, committed_tree, IsKept-committed}
use Rattle.rmt_tree.proofs.OwnedLemmas.{unprepared_stay}
use Rattle.rmt_tree.proofs.tree.Tree.multi_after.Goals as goal

pub invariant_of-self : goal.invariant_of-self
invariant_of-self g c =
    let exact : TrackOwned c.prepare.new.tracker.items (map.entries c.prepare.new.slots) = search rules in
    IsKept-prepared (map.entries c.self.inside.slots) (map.entries c.prepare.new.slots) c.self.inside.tracker.items c.prepare.new.tracker.items c.prepare.ensures.nodes c.prepare.ensures.sessions c.prepare.ensures.stay exact c.self.invariant

pub returns-in_err-prepare-clause-err : goal.returns-in_err-prepare-clause-err
returns-in_err-prepare-clause-err g c =
    let same : tree_of [] (map.entries c.prepare.new.slots) c.prepare.new.tracker.items ≡ c.args.self.now = prepared_tree (map.entries c.self.inside.slots) (map.entries c.prepare.new.slots) c.self.inside.tracker.items c.prepare.new.tracker.items c.prepare.ensures.nodes c.prepare.ensures.sessions ∙ c.self.view_is in
    grind (arith, same)

pub invariant_of-self-in-Ok-1 : goal.invariant_of-self-in-Ok-1
invariant_of-self-in-Ok-1 g c = IsKept-committed (map.entries c.self.inside.slots) (map.entries c.prepare.new.slots) (map.entries c.commit.new.slots) c.in_ok-outcome.outcome.changes.entries c.self.inside.tracker.items c.prepare.new.tracker.items c.commit.new.tracker.items c.prepare.ensures.nodes c.prepare.ensures.sessions c.commit.ensures.nodes c.commit.ensures.sessions c.commit.ensures.listed c.commit.ensures.exact (rw c.deref.ensures.value at c.in_ok-outcome.ensures.owners)
    (subst (λ (t : TreeView). IsShape t.nodes) (sym (rw c.deref.ensures.value at c.in_ok-outcome.ensures.ok)) (IsShape-after_all (tree_of [] (map.entries c.self.inside.slots) c.self.inside.tracker.items) c.args.ops.now 0 c.name_nodes.ensures (rw c.deref.ensures.value at c.in_ok-outcome.ensures.all) c.self.invariant.shape))

pub invariant_of-self-in-Err-1 : goal.invariant_of-self-in-Err-1
invariant_of-self-in-Err-1 g c = IsKept-prepared (map.entries c.self.inside.slots) (map.entries c.prepare.new.slots) c.self.inside.tracker.items c.untrack_all.new.tracker.items c.prepare.ensures.nodes (c.untrack_all.ensures.sessions ∙ c.prepare.ensures.sessions)
    (unprepared_stay (map.entries c.self.inside.slots) (map.entries c.prepare.new.slots) c.self.inside.tracker.items c.prepare.new.tracker.items c.untrack_all.new.tracker.items c.prepare.ensures.nodes c.prepare.ensures.stay c.untrack_all.ensures.stay)
    c.untrack_all.ensures.exact c.self.invariant

pub returns-in-Ok-clause-ok : goal.returns-in-Ok-clause-ok
returns-in-Ok-clause-ok g c =
    committed_tree (map.entries c.self.inside.slots) (map.entries c.prepare.new.slots) (map.entries c.commit.new.slots) c.in_ok-outcome.outcome.changes.entries c.self.inside.tracker.items c.prepare.new.tracker.items c.commit.new.tracker.items c.prepare.ensures.nodes c.prepare.ensures.sessions c.commit.ensures.nodes c.commit.ensures.sessions
    ∙ (rw c.deref.ensures.value at c.in_ok-outcome.ensures.ok)
    ∙ ap (λ t. after_all t c.args.ops.now) c.self.view_is

pub returns-in-Err-clause-unchanged : goal.returns-in-Err-clause-unchanged
returns-in-Err-clause-unchanged g c = inr (c.in-Err.field-0, record { shown = _; shows = refl; left = _; met = c.in-Err.ensures; leaves = refl })

pub returns-in-Err-clause-err : goal.returns-in-Err-clause-err
returns-in-Err-clause-err g c = prepared_tree (map.entries c.self.inside.slots) (map.entries c.prepare.new.slots) c.self.inside.tracker.items c.untrack_all.new.tracker.items c.prepare.ensures.nodes (c.untrack_all.ensures.sessions ∙ c.prepare.ensures.sessions) ∙ c.self.view_is
