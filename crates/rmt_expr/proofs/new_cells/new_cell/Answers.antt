use Rattle.std.proofs.Common.{ap, ◌∙◌}
use Rattle.std.specs.Option.{option_map}
use Rattle.rmt_columns.specs.Columns.{value_of}
use Rattle.rmt_expr.proofs.UpdateLemmas.{cell-set, cell-old, cell-none}
use Rattle.rmt_expr.proofs.new_cells.new_cell.Goals as goal

pub returns-in_err-old : goal.returns-in_err-old
returns-in_err-old c = ap (option_map value_of) c.from_residual.ensures ∙ cell-none c.args.sets.now c.args.rows.now.rows c.args.i c.args.column c.in_err-old.ensures

pub returns-in-Some : goal.returns-in-Some
returns-in-Some c = cell-set c.args.sets.now c.args.rows.now.rows c.args.i c.args.column _ _ _ c.in_ok-old.ensures c.in-Some.ensures c.right_at.ensures

pub returns-in-None : goal.returns-in-None
returns-in-None c = cell-old c.args.sets.now c.args.rows.now.rows c.args.i c.args.column _ c.in_ok-old.ensures c.in-None.ensures
