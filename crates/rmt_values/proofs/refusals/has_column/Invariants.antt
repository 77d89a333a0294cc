use Rattle.std.proofs.Common.{◌≡◌, drop}
use Rattle.rmt_values.specs.Schemas.{names_of, has_name}
use Rattle.rmt_values.proofs.refusals.has_column.Given as goal

abbrev pub invariant-columns : goal.invariant-columns
invariant-columns l = has_name (names_of l.columns) l.name ≡ has_name (names_of (drop l.column-index l.columns)) l.name
