use Rattle.std.proofs.Common.{◌≡◌, ◌++◌, ◌≤◌}
use Rattle.rmt_format.specs.StoredBytes.{cells_bytes, CellsAreHeld}
use Rattle.rmt_format.proofs.granules.put_cells.Given as goal

abbrev pub invariant-cells : goal.invariant-cells
invariant-cells l = record {
  bytes : l.out.items ≡ l.fn.out.items ++ cells_bytes l.first l.i l.column;
  starts : l.past ≤ l.first → l.i ≤ l.first;
  held : CellsAreHeld l.first l.i l.column;
}
