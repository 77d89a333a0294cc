use Rattle.std.proofs.Common.{arith, length, ◌-◌}
use Rattle.rmt_paths.proofs.PathLemmas.{take-parent}
use Rattle.rmt_paths.proofs.place.Place.parent.Goals as goal

pub returns : goal.returns
returns c =
    let above = take-parent (length c.args.self.now - 1) c.args.self.now in
    grind (arith, above)
