-- A row that is put into columns, or is none.
use Rattle.std.proofs.Common.{◌≡◌, ◌++◌, ◌∷◌, [], List, Bool, true, false, Option, Some, None, refl}
use Rattle.rmt_values.specs.declared.value.Value.{Value}
use Rattle.rmt_columns.specs.RowsByColumn.{BegunView}
use Rattle.rmt_sql_rows.specs.PutRows.{PutsRow}

-- what isn't put is no row
pub puts-none : (b : Bool) (o : Option (List Value)) (old new : BegunView) → b ≡ false → PutsRow b o old new → o ≡ None
puts-none false None old new e p = refl
puts-none false (Some row) old new e p = absurd p
puts-none true o old new e p = absurd cc

-- what is put is a row after the others
pub puts-some : (b : Bool) (o : Option (List Value)) (old new : BegunView) → b ≡ true → PutsRow b o old new →
    (row : List Value) × (o ≡ Some row) × (new ≡ record old { rows = old.rows ++ row ∷ [] })
puts-some true (Some row) old new e p = (row, refl, p)
puts-some true None old new e p = absurd p
puts-some false o old new e p = absurd cc
