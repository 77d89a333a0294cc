use Rattle.std.proofs.Common.{◌++◌, List, ℕ, sym, ap, ◌∙◌, append_assoc, arith, slice_get}
use Rattle.std.specs.List.{flat_map}
use Rattle.std.specs.Option.{option_to_list}
use Rattle.rmt_bytes.specs.Encoding.{value_bytes}
use Rattle.rmt_format.specs.StoredBytes.{cells_bytes}
use Rattle.rmt_format.proofs.GranuleLemmas.{cells-next, cells-end}
use Rattle.rmt_format.proofs.RangeLemmas.{held-next, held-end}
use Rattle.rmt_format.proofs.granules.put_cells.Goals as goal

pub cells-preserved : goal.cells-preserved
cells-preserved c = record {
  bytes =
      let cell = flat_map value_bytes (option_to_list (slice_get c.args.column.now.values c.cells.i)) in
      let before = cells_bytes c.args.first c.cells.i c.args.column.now in
      c.in_ok-put_cell.ensures.ok ∙ ap (λ (l : List ℕ). l ++ cell) c.cells.invariant.bytes ∙ append_assoc c.args.out.now.items before cell
      ∙ ap (λ (l : List ℕ). c.args.out.now.items ++ l) (sym (cells-next c.args.first c.cells.i c.args.column.now c.cells.auto.i));
  starts = λ h. omega (arith, h);
  held = held-next c.args.first c.cells.i c.args.column.now c.cells.auto.i c.cells.invariant.held c.in_ok-put_cell.ensures.in_range;
}

pub returns-clause-ok : goal.returns-clause-ok
returns-clause-ok c =
    c.cells.invariant.bytes
    ∙ ap (λ (l : List ℕ). c.args.out.now.items ++ l) (cells-end c.args.first c.cells.i c.args.past c.args.column.now c.cells.auto.i c.cells.auto.i-end c.cells.invariant.starts c.cells-test.false)

pub returns-clause-in_range : goal.returns-clause-in_range
returns-clause-in_range c =
    held-end c.args.first c.cells.i c.args.past c.args.column.now c.cells.auto.i c.cells.auto.i-end c.cells.invariant.starts c.cells-test.false c.cells.invariant.held
