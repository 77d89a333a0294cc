use Rattle.std.proofs.Common.{◌<◌, ℕ, [], get_or, length, ap, sym, subst, ◌∙◌}
use Rattle.rmt_values.specs.Filters.{holds}
use Rattle.rmt_columns.specs.RowsByColumn.{BegunView, kinds_in}
use Rattle.rmt_expr.proofs.PassLemmas.{row-put}
use Rattle.rmt_expr.proofs.UpdateLemmas.{row-typed, due-fit}
use Rattle.rmt_expr.proofs.updates.update_rows.Goals as goal

pub put_row-requires-clause-kinds : goal.put_row-requires-clause-kinds
put_row-requires-clause-kinds c =
    let p : c.rows.i < length c.args.rows.now.rows = subst (λ (n : ℕ). c.rows.i < n) c.len-i-end.ensures.count c.rows-test.true in
    let fit = due-fit c.args.schema.now c.args.sets.now c.sets_due-due.result.now (holds c.args.filter.now (get_or c.args.rows.now.rows c.rows.i [])) c.requires.sets c.sets_due-due.ensures in
    row-typed c.args.schema.now c.sets_due-due.result.now c.args.rows.now.rows c.args.rows.now.kinds c.rows.i fit c.requires.kinds c.len-i-end.ensures.typed p
    ∙ (c.requires.kinds ∙ sym (ap (λ (b : BegunView). b.kinds) c.rows.invariant))

pub rows-preserved : goal.rows-preserved
rows-preserved c =
    let p : c.rows.i < length c.args.rows.now.rows = subst (λ (n : ℕ). c.rows.i < n) c.len-i-end.ensures.count c.rows-test.true in
    row-put c.args.sets.now c.sets_due-due.result.now c.args.filter.now c.args.rows.now.rows (kinds_in c.args.schema.now.columns) c.rows.i _ _ p c.sets_due-due.ensures c.rows.invariant c.in_ok-put_row.ensures.ok
