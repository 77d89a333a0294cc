use Rattle.rmt_expr.specs.Updates.{row_with}
use Rattle.rmt_expr.proofs.PassLemmas.{value-put}
use Rattle.rmt_expr.proofs.updates.put_row.Goals as goal

pub columns-preserved : goal.columns-preserved
columns-preserved c =
    value-put (row_with c.args.sets.now c.args.rows.now.rows c.args.i) c.columns.column _ c.args.builder.now _ _ c.columns.invariant c.in_ok-push.ensures.ok c.in-Some.ensures
