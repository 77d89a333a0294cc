use Rattle.std.proofs.Common.{◌≡◌, ◌++◌, drop}
use Rattle.rmt_paths.specs.Paths.{path_text}
use Rattle.rmt_paths.proofs.place.Place.text.Given as goal

abbrev pub invariant-names : goal.invariant-names
invariant-names l = l.text.items ++ path_text (drop l.name-index l.all) ≡ path_text l.all
