use Rattle.std.proofs.Common.{List, sym, ap, ◌∙◌, subst}
use Rattle.rmt_columns.specs.Columns.{ColumnView}
use Rattle.rmt_columns.specs.RowsByColumn.{AreBegun, AreTyped, rows_begun}
use Rattle.rmt_columns.proofs.BuilderLemmas.{none-begun, none-seen}
use Rattle.rmt_columns.proofs.TypedLemmas.{none-typed}
use Rattle.rmt_columns.proofs.rows_builder.RowsBuilder.new.Goals as goal

pub invariant_of-result : goal.invariant_of-result
invariant_of-result c = subst (λ (l : List ColumnView). AreBegun 0 0 l × AreTyped l) (sym c.in_ok-columns.ensures) (none-begun c.args.columns.now, none-typed c.args.columns.now)

pub returns : goal.returns
returns c = ap (rows_begun 0 0) c.in_ok-columns.ensures ∙ none-seen c.args.columns.now
