use Rattle.std.proofs.Common.{arith}
use Rattle.rmt_model.proofs.Drops.{entry-below}
use Rattle.rmt_acts.proofs.optimizing.merged_at.Goals as goal

pub unreachable-requires-in-None : goal.unreachable-requires-in-None
unreachable-requires-in-None c =
    let m = c.requires.merge in
    let n = c.in-None.ensures.entry in
    let l = entry-below c.args.copy.now.log c.args.place _ m.3 in
    omega (arith, n, l)
