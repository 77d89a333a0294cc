use Rattle.std.proofs.Common.{arith}
use Rattle.std.proofs.lemmas.Grind.{common_steps}
use Rattle.rmt_format.specs.StoredBytes.{CellsAreHeld}
use Rattle.rmt_format.proofs.RangeLemmas.{all-take-at}
use Rattle.rmt_format.proofs.granules.put_granule.Goals as goal

pub columns-preserved : goal.columns-preserved
columns-preserved c = record {
  bytes = grind (arith, common_steps);
  held = all-take-at (CellsAreHeld c.args.first c.args.past) c.columns.column-index c.args.columns.now c.column-item.result c.columns-test.true c.column-item.is c.columns.invariant.held c.in_ok-put_cells.ensures.in_range;
}
