use Rattle.std.proofs.Common.{◌∙◌, ◌+◌, ◌-◌, ap}
use Rattle.rmt_columns.specs.Columns.{ColumnView, value_of}
use Rattle.rmt_format.specs.PartDecoding.{decode_cells}
use Rattle.rmt_format.proofs.ReadLemmas.{cell-read}
use Rattle.rmt_format.proofs.cells.read_cells.Goals as goal

pub cells-preserved : goal.cells-preserved
cells-preserved c = record {
  kind = ap (λ (d : ColumnView). d.kind) c.in_ok-push.ensures.ok ∙ c.cells.invariant.kind;
  read =
      ap (λ (d : ColumnView). decode_cells d (c.args.count - (c.cells.counter + 1)) c.in_ok-value.after.now) c.in_ok-push.ensures.ok
      ∙ cell-read c.cells.column c.kind-kind.result c.args.count c.cells.counter (value_of c.in_ok-value.value) c.cells.rest.now c.in_ok-value.after.now _ c.cells-test.true c.cells.invariant.kind c.in_ok-value.ensures.value c.cells.invariant.read;
}
