use Rattle.std.proofs.Common.{◌≡◌, ◌++◌, Some, map, drop}
use Rattle.std.specs.Arc.{arc_value}
use Rattle.rmt_values.specs.Rows.{kind_at}
use Rattle.rmt_granules.specs.Places.{row_in, cells_of}
use Rattle.rmt_granules.proofs.merge.column_in.Given as goal

abbrev pub invariant-places : goal.invariant-places
invariant-places l = record {
  kind : kind_at l.schema.columns l.at ≡ Some l.column.kind;
  values :
      l.column.values ++ cells_of l.at (map (row_in (map arc_value l.parts)) (drop l.place-index l.places))
      ≡ cells_of l.at (map (row_in (map arc_value l.parts)) l.places);
}
