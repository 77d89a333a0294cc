use Rattle.std.proofs.Common.{◌≡◌, drop, length}
use Rattle.rmt_sql_rows.specs.InsertedRows.{row_values}
use Rattle.rmt_sql_rows.proofs.Parts.{with_prefix}
use Rattle.rmt_sql_rows.proofs.cells.push_values.Given as goal

abbrev pub invariant-columns : goal.invariant-columns
invariant-columns g l =
    (l.builder ≡ record l.fn.builder { begun = l.builder.begun }) × (length l.builder.begun ≡ l.i)
    × (row_values (g.C.Cells.value l.cells) l.columns l.places ≡ with_prefix l.builder.begun (row_values (g.C.Cells.value l.cells) (drop l.i l.columns) (drop l.i l.places)))
