use Rattle.std.proofs.Common.{[]}
use Rattle.rmt_table.proofs.Laid.{then-one}
use Rattle.rmt_table.proofs.layout.fixed_ops.Goals as goal

pub returns : goal.returns
returns c =
    then-one _ _ _ _ c.in_ok-push_empty-7.ensures (then-one _ _ _ _ c.in_ok-push_empty-6.ensures (then-one _ _ _ _ c.in_ok-push_empty-5.ensures (then-one _ _ _ _ c.in_ok-push_empty-4.ensures
    (then-one _ _ _ _ c.in_ok-push_empty-3.ensures (then-one _ _ _ _ c.in_ok-push_empty-2.ensures (then-one _ [] _ _ c.in_ok-push_empty.ensures c.new-ops.ensures.items))))))
