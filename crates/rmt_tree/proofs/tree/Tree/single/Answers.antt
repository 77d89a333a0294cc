use Rattle.std.specs.FinMap as map
use Rattle.std.proofs.Common.{◌≡◌, ◌∙◌, sym, ap, subst, arith}
use Rattle.rmt_tree.specs.Trees.{TreeView}
use Rattle.rmt_tree.specs.Shapes.{IsShape}
use Rattle.rmt_tree.proofs.ShapeLemmas.{IsShape-after}
use Rattle.rmt_tree.specs.Ops.{after}
use Rattle.rmt_tree.specs.Drafts.{tree_of}
use Rattle.std.specs.Prelude.{[]}
use Rattle.rmt_tree.proofs.TreeLemmas.{prepared_tree, IsKept-prepared, committed_tree, IsKept-committed, can_commit}
use Rattle.rmt_tree.proofs.tree.Tree.single.Goals as goal

pub commit-requires : goal.commit-requires
commit-requires c = can_commit (map.entries c.self.inside.slots) (map.entries c.prepare.new.slots) c.in_ok-outcome.outcome.changes.entries c.self.inside.tracker.items c.prepare.new.tracker.items c.prepare.ensures.nodes c.prepare.ensures.stay c.in_ok-prepare.ensures.room c.in_ok-prepare.ensures.listed c.in_ok-prepare.ensures.exact c.in_ok-outcome.ensures.root c.self.invariant

pub invariant_of-self : goal.invariant_of-self
invariant_of-self c = IsKept-prepared (map.entries c.self.inside.slots) (map.entries c.prepare.new.slots) c.self.inside.tracker.items c.prepare.new.tracker.items c.prepare.ensures.nodes c.prepare.ensures.sessions c.prepare.ensures.stay c.in_err-prepare.ensures.err c.self.invariant

pub returns-in_err-prepare-clause-err : goal.returns-in_err-prepare-clause-err
returns-in_err-prepare-clause-err c =
    let same : tree_of [] (map.entries c.prepare.new.slots) c.prepare.new.tracker.items ≡ c.args.self.now = prepared_tree (map.entries c.self.inside.slots) (map.entries c.prepare.new.slots) c.self.inside.tracker.items c.prepare.new.tracker.items c.prepare.ensures.nodes c.prepare.ensures.sessions ∙ c.self.view_is in
    grind (arith, same)

pub invariant_of-self-2 : goal.invariant_of-self-2
invariant_of-self-2 c = IsKept-committed (map.entries c.self.inside.slots) (map.entries c.prepare.new.slots) (map.entries c.commit.new.slots) c.in_ok-outcome.outcome.changes.entries c.self.inside.tracker.items c.prepare.new.tracker.items c.commit.new.tracker.items c.prepare.ensures.nodes c.prepare.ensures.sessions c.commit.ensures.nodes c.commit.ensures.sessions c.commit.ensures.listed c.commit.ensures.exact (rw c.deref.ensures.value at c.in_ok-outcome.ensures.owners)
    (subst (λ (t : TreeView). IsShape t.nodes) (sym (rw c.deref.ensures.value at c.in_ok-outcome.ensures.ok)) (IsShape-after (tree_of [] (map.entries c.self.inside.slots) c.self.inside.tracker.items) c.args.op.now c.names_node.ensures (rw c.deref.ensures.value at c.in_ok-outcome.ensures.all) c.self.invariant.shape))

pub returns-clause-ok : goal.returns-clause-ok
returns-clause-ok c =
    committed_tree (map.entries c.self.inside.slots) (map.entries c.prepare.new.slots) (map.entries c.commit.new.slots) c.in_ok-outcome.outcome.changes.entries c.self.inside.tracker.items c.prepare.new.tracker.items c.commit.new.tracker.items c.prepare.ensures.nodes c.prepare.ensures.sessions c.commit.ensures.nodes c.commit.ensures.sessions
    ∙ (rw c.deref.ensures.value at c.in_ok-outcome.ensures.ok)
    ∙ ap (λ t. after t c.args.op.now) c.self.view_is

pub prepare-requires : goal.prepare-requires
prepare-requires c = c.self.invariant.exact
