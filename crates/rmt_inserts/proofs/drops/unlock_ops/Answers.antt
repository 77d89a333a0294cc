use Rattle.std.proofs.Common.{◌≡◌, ◌<◌, ◌≤◌, ◌∙◌, false, is_some, length, sym, ap, subst}
use Rattle.std.proofs.lemmas.List.{take_all}
use Rattle.std.specs.Option.{option_map}
use Rattle.rmt_tree.specs.Trees.{node_at, children}
use Rattle.rmt_znodes.specs.declared.znode.Znode.TheVariants.{Partition}
use Rattle.rmt_znodes.specs.Znodes.{znode_path}
use Rattle.rmt_inserts.proofs.DropLemmas.{children-some, children-none, none-unlocked, unlocked-all, unlock-step, unlocks, unlocks-none}
use Rattle.rmt_inserts.proofs.drops.unlock_ops.Goals as goal

pub returns-in_default : goal.returns-in_default
returns-in_default c = λ next holders has.
    let n = children-none c.args.tree.now c.in_ok-path.path (sym (ap (option_map (λ ns. ns.items)) c.in_default.is) ∙ c.in_ok-names.ensures) in
    none-unlocked c.args.tree.now next holders has c.args.partition c.in_ok-path.ensures.in_range c.args.below c.new-ops.result.items c.new-ops.ensures.items
    (subst (λ q. is_some (node_at c.args.tree.now q) ≡ false) c.in_ok-path.ensures.path n)

pub names-init : goal.names-init
names-init c = λ next holders has. unlocks-none c.args.partition c.args.below c.new-ops.result.items c.new-ops.ensures.items

pub names-preserved : goal.names-preserved
names-preserved c = λ next holders has.
    let n : c.deref-name-items.result.now ≡ children c.args.tree.now (znode_path (Partition c.args.partition)) =
    c.deref-name-items.ensures.value ∙ children-some c.args.tree.now c.in_ok-path.path _ _ c.in_ok-names.ensures (ap (option_map (λ ns. ns.items)) c.in-Some.is) ∙ ap (children c.args.tree.now) c.in_ok-path.ensures.path in
    let l : c.names.name-index < length c.deref-name-items.result.now = c.names-test.true in
    unlock-step c.args.tree.now next holders has c.args.partition c.in_ok-path.ensures.in_range c.args.below c.deref-name-items.result.now n c.names.name-index l c.as_bytes.result.now c.name-item.result (c.as_bytes.ensures ∙ c.name-item.is)
    c.names.ops.items c.in_ok-ops.ops.items (c.names.invariant next holders has) (λ m small is. c.in_ok-ops.ensures m small is)

pub returns : goal.returns
returns c = λ next holders has.
    let n : c.deref-name-items.result.now ≡ children c.args.tree.now (znode_path (Partition c.args.partition)) =
    c.deref-name-items.ensures.value ∙ children-some c.args.tree.now c.in_ok-path.path _ _ c.in_ok-names.ensures (ap (option_map (λ ns. ns.items)) c.in-Some.is) ∙ ap (children c.args.tree.now) c.in_ok-path.ensures.path in
    let l : length c.deref-name-items.result.now ≤ c.names.name-index = c.names-test.false in
    unlocked-all c.args.tree.now next holders has c.args.partition c.in_ok-path.ensures.in_range c.args.below c.names.ops.items c.deref-name-items.result.now n
    (c.names.invariant next holders has ∙ ap (unlocks c.args.partition c.args.below) (take_all c.names.name-index c.deref-name-items.result.now l))
