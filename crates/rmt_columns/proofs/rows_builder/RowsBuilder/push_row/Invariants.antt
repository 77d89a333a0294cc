use Rattle.std.proofs.Common.{◌≡◌, take}
use Rattle.rmt_columns.proofs.rows_builder.RowsBuilder.push_row.Given as goal

abbrev pub invariant-values : goal.invariant-values
invariant-values l = l.self ≡ record l.fn.self { begun = take l.value-index l.values }
