use Rattle.std.proofs.Common.{arith}
use Rattle.rmt_paths.proofs.PathLemmas.{is_path-root}
use Rattle.rmt_paths.proofs.place.Place.is_root.Goals as goal

pub returns : goal.returns
returns c = let root = is_path-root c.self.inside.names.items in grind (arith, root)
