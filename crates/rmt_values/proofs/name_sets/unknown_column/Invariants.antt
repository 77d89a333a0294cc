use Rattle.std.proofs.Common.{◌≡◌, drop}
use Rattle.rmt_values.specs.Schemas.{names_of, first_unknown}
use Rattle.rmt_values.proofs.name_sets.unknown_column.Given as goal

abbrev pub invariant-names : goal.invariant-names
invariant-names l =
    first_unknown (names_of l.columns) l.names ≡ first_unknown (names_of l.columns) (drop l.name-index l.names)
