use Rattle.std.proofs.Common.{◌≡◌, length, take}
use Rattle.std.specs.List.{filter_map}
use Rattle.rmt_values.specs.Rows.{AllBelow}
use Rattle.rmt_values.specs.Commands.{applied}
use Rattle.rmt_values.specs.declared.checked_mutation.CheckedMutation.TheVariants.{Delete}
use Rattle.rmt_columns.specs.Places.{at_places}
use Rattle.rmt_expr.proofs.deletes.places_left.Given as goal

abbrev pub invariant-rows : goal.invariant-rows
invariant-rows l =
    (at_places l.rows.rows l.places.items ≡ filter_map (applied (Delete l.filter)) (take l.i l.rows.rows))
    × AllBelow (length l.rows.rows) l.places.items
