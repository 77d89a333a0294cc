use Rattle.std.proofs.Common.{◌≡◌, ◌∙◌, ◌+◌, sym, ap, subst, refl, arith, inl, ℕ, List, length, None}
use Rattle.rmt_values.specs.Rows.{Shape}
use Rattle.rmt_tree.specs.Ops.{after_all, first_refusal}
use Rattle.rmt_tree.specs.declared.op.Op.{Op}
use Rattle.rmt_table_model.specs.Held.{Held, holders_in}
use Rattle.rmt_table_model.specs.Numbers.{IsLocked}
use Rattle.rmt_table_model.specs.Kept.{with_id}
use Rattle.rmt_table.proofs.Appended.{window-most}
use Rattle.rmt_names.specs.Names.{Name}
use Rattle.rmt_model.specs.Quorum.{quorum_after_block}
use Rattle.rmt_table.proofs.LengthLemmas.{room-left}
use Rattle.rmt_table.proofs.AppendLemmas.{token-next, token-of, tree-row}
use Rattle.rmt_table.proofs.Committed.{in-range, few-clients, id-unkept, window-as, ops-seen, ops-fine, committed-tree, committed-seen, unwritten, blocks-few}
use Rattle.rmt_table.specs.contracts.table_tree.TableTree.{the_view}
use Rattle.rmt_table.proofs.table_tree.TableTree.accept.Goals as goal

pub commit_ops-requires-clause-in_range : goal.commit_ops-requires-clause-in_range
commit_ops-requires-clause-in_range c =
    in-range (the_view c.self.inside) c.self.inside.log.tokens _ c.self.invariant c.args.self.now c.self.view_is c.args.lock.now c.args.need c.args.values c.is_id.ensures c.requires.quorum
    (subst (λ (w : Held). IsLocked (holders_in w.tree) c.args.lock.now.id.partition c.args.lock.now.number) (sym c.self.view_is) c.requires.locked) c.requires.acceptable c.requires.here

pub invariant_of-self-in_err-token : goal.invariant_of-self-in_err-token
invariant_of-self-in_err-token c =
    tree-row _ _ _ _ c.append.ensures.row (
    unwritten (the_view c.self.inside) c.self.inside.log.tokens _ c.self.invariant refl c.append.new.log.tokens c.in_err-token.ensures.err_log c.append.new.tree c.in_err-token.ensures.err_tree _ c.in_ok-reserve.ensures.count _ c.in_ok-reserve.ensures.placed)

pub invariant_of-self-2 : goal.invariant_of-self-2
invariant_of-self-2 c =
    tree-row _ _ _ _ c.append.ensures.row (
    committed-tree (the_view c.self.inside) c.self.inside.log.tokens _ c.self.invariant c.args.self.now c.self.view_is c.args.lock.now c.args.need c.args.values c.is_id.ensures c.requires.quorum
    (subst (λ (w : Held). IsLocked (holders_in w.tree) c.args.lock.now.id.partition c.args.lock.now.number) (sym c.self.view_is) c.requires.locked) c.requires.acceptable
    c.in_ok-ops.ops.items c.in_ok-ops.ensures c.append.new.tree (c.in_ok-token.ensures.tree ∙ ap (after_all c.self.inside.tree) c.deref.ensures.value) c.in_ok-token.token (token-next (the_view c.self.inside) (the_view c.self.inside) refl c.self.inside.log.tokens refl _ c.in_ok-token.token (token-of _ _ _ _ _ c.in_ok-token.ensures.token c.entry_of-entry.ensures)) c.append.new.log.tokens c.in_ok-token.ensures.log refl c.open.new.self (c.open.ensures ∙ ap (λ (a : Name). quorum_after_block a c.args.need c.self.inside.quorum) c.block_name-part.ensures) _ _ refl (c.keep.ensures.count ∙ ap (λ (n : ℕ). n + 1) c.in_ok-reserve.ensures.count) _
    (window-as c.args.lock.now.id.digest _ _ _ _ _ _ _ _ _ (c.window.ensures ∙ ap (λ (v : Shape). v.window) c.deref-2.ensures) c.block_name-part.ensures c.in_ok-reserve.ensures.count c.in_ok-reserve.ensures.placed c.keep.ensures.placed))

pub keep-requires : goal.keep-requires
keep-requires c = record {
  room = c.in_ok-reserve.ensures.ok;
  few = let few = blocks-few (the_view c.self.inside) c.self.inside.log.tokens _ c.self.invariant in let n = c.in_ok-reserve.ensures.count in omega (arith, few, n);
  apart = ap (with_id _ _) (c.in_ok-reserve.ensures.placed ∙ c.self.invariant.counted.window) ∙ id-unkept (the_view c.self.inside) c.self.inside.log.tokens _ c.self.invariant c.args.self.now c.self.view_is c.args.lock.now c.args.need c.args.values c.is_id.ensures c.requires.quorum
      (subst (λ (w : Held). IsLocked (holders_in w.tree) c.args.lock.now.id.partition c.args.lock.now.number) (sym c.self.view_is) c.requires.locked) c.requires.acceptable;
  partition = ap (λ (a : Name). a.partition) (sym c.block_name-part.ensures);
  within = let most = window-most (the_view c.self.inside).schema.window (the_view c.self.inside).log in
      let same = ap length (c.in_ok-reserve.ensures.placed ∙ c.self.invariant.counted.window) in
      let w = c.window.ensures ∙ ap (λ (v : Shape). v.window) c.deref-2.ensures in
      omega (arith, most, same, w);
}

pub returns-clause-commits : goal.returns-clause-commits
returns-clause-commits c =
    committed-seen (the_view c.self.inside) c.self.inside.log.tokens _ c.self.invariant c.args.self.now c.self.view_is c.args.lock.now c.args.need c.args.values c.is_id.ensures c.requires.quorum
    (subst (λ (w : Held). IsLocked (holders_in w.tree) c.args.lock.now.id.partition c.args.lock.now.number) (sym c.self.view_is) c.requires.locked) c.requires.acceptable
    c.in_ok-ops.ops.items c.in_ok-ops.ensures c.append.new.tree (c.in_ok-token.ensures.tree ∙ ap (after_all c.self.inside.tree) c.deref.ensures.value) c.in_ok-token.token (token-next (the_view c.self.inside) (the_view c.self.inside) refl c.self.inside.log.tokens refl _ c.in_ok-token.token (token-of _ _ _ _ _ c.in_ok-token.ensures.token c.entry_of-entry.ensures)) c.append.new.log.tokens c.in_ok-token.ensures.log refl c.open.new.self (c.open.ensures ∙ ap (λ (a : Name). quorum_after_block a c.args.need c.self.inside.quorum) c.block_name-part.ensures)

pub returns-clause-ops : goal.returns-clause-ops
returns-clause-ops c =
    c.in_ok-token.ensures.tree ∙ ap (after_all c.self.inside.tree) c.deref.ensures.value ∙ ap (λ (h : Held). after_all h.tree c.in_ok-ops.ops.items) c.self.view_is ∙ ap (after_all c.args.self.now.tree) (ops-seen (the_view c.self.inside) c.self.inside.log.tokens _ c.self.invariant c.args.self.now c.self.view_is c.args.lock.now c.args.need c.args.values c.is_id.ensures c.requires.quorum
    (subst (λ (w : Held). IsLocked (holders_in w.tree) c.args.lock.now.id.partition c.args.lock.now.number) (sym c.self.view_is) c.requires.locked) c.requires.acceptable
    c.in_ok-ops.ops.items c.in_ok-ops.ensures)

pub append-requires : goal.append-requires
append-requires c = record {
  fine = subst (λ (xs : List Op). first_refusal c.self.inside.tree xs 0 ≡ None) (sym c.deref.ensures.value) (ops-fine (the_view c.self.inside) c.self.inside.log.tokens _ c.self.invariant c.args.self.now c.self.view_is c.args.lock.now c.args.need c.args.values c.is_id.ensures c.requires.quorum
      (subst (λ (w : Held). IsLocked (holders_in w.tree) c.args.lock.now.id.partition c.args.lock.now.number) (sym c.self.view_is) c.requires.locked) c.requires.acceptable
      c.in_ok-ops.ops.items c.in_ok-ops.ensures);
  room = room-left (the_view c.self.inside) c.self.inside.log.tokens c.self.inside.log.tokens _ c.self.invariant refl (inl (few-clients (the_view c.self.inside) c.self.inside.log.tokens _ c.self.invariant c.args.self.now c.self.view_is c.args.lock.now c.args.need c.args.values c.is_id.ensures c.requires.quorum
      (subst (λ (w : Held). IsLocked (holders_in w.tree) c.args.lock.now.id.partition c.args.lock.now.number) (sym c.self.view_is) c.requires.locked) c.requires.acceptable));
}
