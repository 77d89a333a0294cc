use Rattle.std.proofs.Common.{arith}
use Rattle.rmt_model.proofs.Drops.{entry-below}
use Rattle.rmt_acts.proofs.drop.number_at.Goals as goal

pub unreachable-requires : goal.unreachable-requires
unreachable-requires c =
    let n = c.in_default.ensures.entry in
    let l = entry-below c.args.copy.now.log c.args.place _ c.requires.1.1 in
    omega (arith, n, l)
