use Rattle.std.proofs.Common.{◌≡◌, [], take}
use Rattle.std.specs.List.{filter_map}
use Rattle.rmt_values.specs.Commands.{applied}
use Rattle.rmt_values.specs.declared.checked_mutation.CheckedMutation.TheVariants.{Update}
use Rattle.rmt_columns.specs.RowsByColumn.{kinds_in}
use Rattle.rmt_expr.proofs.updates.update_rows.Given as goal

abbrev pub invariant-rows : goal.invariant-rows
invariant-rows l =
    l.builder ≡ record { kinds = kinds_in l.schema.columns; rows = filter_map (applied (Update l.sets l.filter)) (take l.i l.rows.rows); begun = [] }
