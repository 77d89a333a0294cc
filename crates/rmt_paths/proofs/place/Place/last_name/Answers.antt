use Rattle.std.proofs.Common.{arith, length, ◌-◌}
use Rattle.rmt_paths.proofs.PathLemmas.{slice_get-last}
use Rattle.rmt_paths.proofs.place.Place.last_name.Goals as goal

pub returns-in-Some : goal.returns-in-Some
returns-in-Some c =
    let last = slice_get-last (length c.args.self.now - 1) c.args.self.now c.in-Some.name.now in
    grind (arith, last)
