use Rattle.std.proofs.Common.{length, arith, ap}
use Rattle.rmt_model.proofs.Drops.{entry-below}
use Rattle.rmt_cluster.proofs.cluster.syncing.source_of.Goals as goal

pub returns-in_default : goal.returns-in_default
returns-in_default c = λ e q.
    let k = entry-below c.args.worker.now.log c.args.i e q in
    let l = ap length c.copy-copy.ensures.log in
    let m = c.in_default.ensures.entry in
    absurd (omega (arith, k, l, m))
