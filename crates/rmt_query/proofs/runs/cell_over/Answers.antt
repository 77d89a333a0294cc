use Rattle.std.proofs.Common.{rules, ◌≡◌, ℕ, sym, ap, ◌∙◌}
use mir.Val.{to_z, of_z}
use mir.Syntax.{w128}
use Rattle.std.specs.Prelude.{ℤ}
use Rattle.rmt_values.specs.declared.cell.Cell.TheVariants as cells
use Rattle.rmt_values.specs.declared.checked_item.CheckedItem.{CheckedItem}
use Rattle.rmt_query.specs.OverRows.{over}
use Rattle.rmt_query.proofs.Over.{over-count-of, over-sum-of}
use Rattle.rmt_query.proofs.runs.cell_over.Goals as goal

pub returns-in-Count : goal.returns-in-Count
returns-in-Count g c =
    let rows = g.R.RowValues.rows c.args.rows.now in
    ap (λ (n : ℕ). cells.UInt n) c.len.ensures.len ∙ sym (ap (λ (i : CheckedItem). over i rows) c.in-Count.is ∙ over-count-of rows c.requires)

pub returns-in-Sum : goal.returns-in-Sum
returns-in-Sum g c =
    let rows = g.R.RowValues.rows c.args.rows.now in
    let back : to_z w128 (of_z w128 c.sum.result) ≡ c.sum.result = search rules in
    ap (λ (z : ℤ). cells.Sum z) (back ∙ c.sum.ensures.sum)
    ∙ sym (ap (λ (i : CheckedItem). over i rows) c.in-Sum.is ∙ over-sum-of c.in-Sum.column rows c.requires)
