use Rattle.rmt_inserts.proofs.ReadLemmas.{ok-as}
use Rattle.rmt_inserts.proofs.KeptLemmas.{more-ops}
use Rattle.rmt_inserts.proofs.kept_ids.with_kept.Goals as goal

pub returns : goal.returns
returns c =
    ok-as c.with_op-2.result (λ w. w.items) _ _ c.with_op-2.ensures
    (more-ops c.args.ops.items c.in_ok-ops.ops.items c.in_ok-block.block c.in_ok-order.order _ _ c.in_ok-ops.ensures c.in_ok-block.ensures c.in_ok-order.ensures)
