use Rattle.std.proofs.Common.{List, subst}
use Rattle.std.specs.Prelude.{IfOk}
use Rattle.rmt_values.specs.declared.column.Column.{Column}
use Rattle.rmt_sql_rows.proofs.Fitting.{AllFit, inserted_rows_fit}
use Rattle.rmt_sql_rows.proofs.insert.rows_of.Goals as goal

pub returns-in-Some-columns-clause-fit : goal.returns-in-Some-columns-clause-fit
returns-in-Some-columns-clause-fit c =
    subst (λ (l : List Column). IfOk c.insert_rows.result (λ all. AllFit l all.rows)) c.columns-columns.ensures.value (inserted_rows_fit c.insert_rows.result (λ all. all.rows) _ _ _ c.insert_rows.ensures.ok)

pub returns-in_ok-named-in-None-clause-fit : goal.returns-in_ok-named-in-None-clause-fit
returns-in_ok-named-in-None-clause-fit c =
    subst (λ (l : List Column). IfOk c.insert_rows-in-None.result (λ all. AllFit l all.rows)) c.columns-columns.ensures.value (inserted_rows_fit c.insert_rows-in-None.result (λ all. all.rows) _ _ _ c.insert_rows-in-None.ensures.ok)
