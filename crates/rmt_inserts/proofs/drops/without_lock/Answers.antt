use Rattle.std.proofs.Common.{◌≡◌, ◌≤◌, ◌<◌, ◌++◌, ◌∷◌, [], ◌∙◌, codes, None, sym, ap, subst}
use Rattle.std.proofs.lemmas.List.{append-nil}
use Rattle.std.proofs.lemmas.Option.{none-some, same_Some}
use Rattle.rmt_tree.specs.declared.op.Op.TheVariants as op
use Rattle.rmt_znodes.specs.declared.znode.Znode.TheVariants.{Lock}
use Rattle.rmt_znodes.specs.Znodes.{znode_path}
use Rattle.rmt_inserts.proofs.ReadLemmas.{ok-as}
use Rattle.rmt_inserts.proofs.DropLemmas.{below-goes, above-stays}
use Rattle.rmt_inserts.proofs.drops.without_lock.Goals as goal

pub returns-in_default : goal.returns-in_default
returns-in_default c = λ n small is. absurd (none-some n (c.in_default.ensures (codes "block-") n small is))

pub returns-then-number-below : goal.returns-then-number-below
returns-then-number-below c = λ n small is.
    let q = same_Some _ _ (c.in-Some.ensures (codes "block-") n small is) in
    sym (append-nil c.args.ops.items) ∙ ap (λ xs. c.args.ops.items ++ xs) (sym (above-stays c.args.partition c.args.below n (subst (λ k. c.args.below ≤ k) q c.if-number-below.true)))

pub returns : goal.returns
returns c = λ n small is.
    let q = same_Some _ _ (c.in-Some.ensures (codes "block-") n small is) in
    let a : c.delete.result ≡ op.Delete (znode_path (Lock c.args.partition n)) None = c.delete.ensures ∙ ap (λ p. op.Delete p None) (c.in_ok-lock.ensures.path ∙ ap (λ k. znode_path (Lock c.args.partition k)) q) in
    ok-as c.with_op.result (λ w. w.items) _ _ c.with_op.ensures
    (ap (λ o. c.args.ops.items ++ o ∷ []) a ∙ ap (λ xs. c.args.ops.items ++ xs) (sym (below-goes c.args.partition c.args.below n (subst (λ k. k < c.args.below) q c.if-number-below.false))))
