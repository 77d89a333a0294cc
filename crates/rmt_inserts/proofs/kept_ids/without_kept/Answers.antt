use Rattle.std.proofs.Common.{ap, None, ◌∙◌}
use Rattle.rmt_tree.specs.declared.op.Op.TheVariants as op
use Rattle.rmt_znodes.specs.declared.znode.Znode.TheVariants.{Block}
use Rattle.rmt_znodes.specs.Znodes.{znode_path}
use Rattle.rmt_inserts.proofs.ReadLemmas.{ok-as}
use Rattle.rmt_inserts.proofs.KeptLemmas.{more-ops}
use Rattle.rmt_inserts.proofs.kept_ids.without_kept.Goals as goal

pub returns : goal.returns
returns c =
    ok-as c.with_op-2.result (λ w. w.items) _ _ c.with_op-2.ensures
    (more-ops c.args.ops.items c.in_ok-ops.ops.items c.delete.result c.delete-2.result _ _ c.in_ok-ops.ensures (c.delete.ensures ∙ ap (λ p. op.Delete p None) (c.in_ok-path.ensures ∙ ap (λ p. znode_path (Block p c.args.id.now.digest)) c.partition.ensures)) (c.delete-2.ensures ∙ ap (λ p. op.Delete p None) c.in_ok-order.ensures.path))
