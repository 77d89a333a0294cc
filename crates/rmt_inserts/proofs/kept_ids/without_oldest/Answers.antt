use Rattle.std.proofs.Common.{◌≡◌, ◌+◌, ◌-◌, ◌++◌, ap, sym, arith, length}
use Rattle.rmt_table_model.specs.Nodes.{leave_ops}
use Rattle.rmt_inserts.proofs.ReadLemmas.{ok-as}
use Rattle.rmt_inserts.proofs.KeptLemmas.{oldest-last}
use Rattle.rmt_inserts.proofs.kept_ids.without_oldest.Goals as goal

pub returns : goal.returns
returns c =
    let some = c.if-count-eq0.false in
    let all = c.len-count.ensures in
    let last : c.len-count.result - 1 + 1 ≡ length c.args.window.now.placed = omega (arith, some, all) in
    ok-as c.without_kept.result (λ w. w.items) _ _ c.without_kept.ensures
    (ap (λ k. c.args.ops.items ++ leave_ops k) (sym (oldest-last c.args.window.now.placed _ (c.len-count.result - 1) last c.at.ensures)))
