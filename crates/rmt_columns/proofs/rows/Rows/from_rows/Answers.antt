use Rattle.std.proofs.Common.{◌∙◌, sym, ap}
use Rattle.rmt_values.specs.Rows.{fits}
use Rattle.rmt_columns.specs.RowsByColumn.{BegunView}
use Rattle.rmt_columns.proofs.RowsLemmas.{kinds-fit}
use Rattle.rmt_columns.proofs.rows.Rows.from_rows.Goals as goal

pub push_row-requires-clause-kinds : goal.push_row-requires-clause-kinds
push_row-requires-clause-kinds c =
    kinds-fit c.args.columns.now c.row-item.result (ap (fits c.args.columns.now) c.row-item.is ∙ c.requires.fit c.rows.row-index c.row-item.result c.rows-test.true)
    ∙ sym (ap (λ (v : BegunView). v.kinds) c.rows.invariant)
