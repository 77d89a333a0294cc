use Rattle.std.proofs.Common.{◌≡◌, ◌-◌}
use Rattle.rmt_format.specs.PartDecoding.{decode_cells}
use Rattle.rmt_format.proofs.cells.read_cells.Given as goal

abbrev pub invariant-cells : goal.invariant-cells
invariant-cells l = record {
  kind : l.column.kind ≡ l.kind;
  read : decode_cells l.column (l.count - l.counter) l.rest ≡ decode_cells l.fn.column l.count l.bytes;
}
