use Rattle.std.proofs.Common.{length, sym, ap, ◌∙◌}
use Rattle.rmt_columns.specs.RowsByColumn.{BegunView}
use Rattle.rmt_columns.proofs.BuilderLemmas.{length-begun_rows}
use Rattle.rmt_columns.proofs.rows_builder.RowsBuilder.len.Goals as goal

pub returns : goal.returns
returns c =
    sym (length-begun_rows c.self.inside.count c.self.inside.begun c.self.inside.columns.items c.self.invariant.0) ∙ ap (λ (v : BegunView). length v.rows) c.self.view_is
