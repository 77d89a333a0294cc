use Rattle.std.proofs.Common.{◌≡◌, ◌++◌, take}
use Rattle.std.specs.List.{flat_map, AllByRecursion}
use Rattle.rmt_format.specs.StoredBytes.{cells_bytes, CellsAreHeld}
use Rattle.rmt_format.proofs.granules.put_granule.Given as goal

abbrev pub invariant-columns : goal.invariant-columns
invariant-columns l = record {
  bytes : l.out.items ≡ l.fn.out.items ++ flat_map (cells_bytes l.first l.past) (take l.column-index l.columns);
  held : AllByRecursion (CellsAreHeld l.first l.past) (take l.column-index l.columns);
}
