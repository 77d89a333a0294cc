use Rattle.std.proofs.Common.{length, subst, sym, ap, ◌∙◌}
use Rattle.rmt_columns.specs.RowsByColumn.{RowsView, HaveKinds}
use Rattle.rmt_columns.proofs.RowsLemmas.{length-rows_of}
use Rattle.rmt_columns.proofs.TypedLemmas.{rows-typed}
use Rattle.rmt_columns.proofs.rows.Rows.len.Goals as goal

pub returns-clause-count : goal.returns-clause-count
returns-clause-count c = sym (length-rows_of c.self.inside.count c.self.inside.columns.items c.self.invariant.0) ∙ ap (λ (v : RowsView). length v.rows) c.self.view_is

pub returns-clause-typed : goal.returns-clause-typed
returns-clause-typed c = subst (λ (v : RowsView). HaveKinds v.kinds v.rows) c.self.view_is (rows-typed c.self.inside.count c.self.inside.columns.items c.self.invariant.1)
