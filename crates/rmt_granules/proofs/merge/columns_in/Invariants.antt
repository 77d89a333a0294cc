use Rattle.std.proofs.Common.{◌≡◌, map, take}
use Rattle.std.specs.Arc.{arc_value}
use Rattle.rmt_granules.specs.Places.{row_in, columns_from}
use Rattle.rmt_granules.proofs.merge.columns_in.Given as goal

abbrev pub invariant-columns : goal.invariant-columns
invariant-columns l = l.made.items ≡ columns_from 0 (take l.at l.schema.columns) (map (row_in (map arc_value l.parts)) l.places)
