use Rattle.std.proofs.Common.{arith}
use Rattle.rmt_paths.proofs.OrderLemmas.{depth_is}
use Rattle.rmt_paths.proofs.place.PlaceOrd.cmp.Goals as goal

pub returns : goal.returns
returns c =
    let depth = depth_is c.args.self.now c.args.other.now in
    grind (arith, depth)
