use Rattle.std.proofs.Common.{ap, sym, ◌∙◌, length}
use Rattle.rmt_columns.specs.RowsByColumn.{BegunView}
use Rattle.rmt_columns.proofs.BuilderLemmas.{begun-long, length-begun}
use Rattle.rmt_columns.proofs.rows_builder.RowsBuilder.into_rows.Goals as goal

pub of_columns-requires-clause-long : goal.of_columns-requires-clause-long
of_columns-requires-clause-long c =
    begun-long c.self.inside.count c.self.inside.begun c.self.inside.columns.items c.self.invariant.0
    (sym (length-begun c.self.inside.count c.self.inside.begun c.self.inside.columns.items c.self.invariant.0)
    ∙ (ap (λ (v : BegunView). length v.begun) c.self.view_is ∙ ap length c.requires))
