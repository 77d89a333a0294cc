use Rattle.std.proofs.Common.{◌++◌, ◌∷◌, [], List, ap, sym, ◌∙◌}
use Rattle.rmt_tree.specs.declared.op.Op.{Op}
use Rattle.rmt_table_model.specs.Kept.{Placed}
use Rattle.rmt_table_model.specs.Nodes.{forget_ops}
use Rattle.rmt_inserts.specs.Windows.{placed_of}
use Rattle.rmt_inserts.proofs.ReadLemmas.{ok-as}
use Rattle.rmt_inserts.proofs.DropLemmas.{forget-goes, same-some}
use Rattle.rmt_inserts.proofs.drops.without_dropped_at.Goals as goal

pub returns : goal.returns
returns c = λ k is.
    ok-as c.without_kept.result (λ w. w.items) _ _ c.without_kept.ensures
    (ap (λ (xs : List Op). c.args.ops.items ++ xs)
    (sym (forget-goes c.args.partition c.args.below (placed_of (c.at.result.0.now, c.at.result.1.now)) (sym c.spares.ensures ∙ c.if-spares.false))
    ∙ ap (λ (j : Placed). forget_ops c.args.partition c.args.below (j ∷ [])) (same-some _ k (sym c.at.ensures ∙ is))))
