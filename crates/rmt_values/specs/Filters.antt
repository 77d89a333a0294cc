-- Which rows a filter keeps.
-- ClickHouse documentation: SELECT, WHERE; comparison and logical functions.
use Rattle.std.specs.Prelude.{◌≡◌, ℕ, ◌&&◌, ◌||◌, not, Bool, true, false, List, slice_get}
use Rattle.std.specs.declared.option.Option.{Option}
use Rattle.std.specs.declared.option.Option.TheVariants.{Some, None}
use Rattle.std.specs.declared.cmp.Ordering.{Ordering}
use Rattle.std.specs.Ordering.{is_lt, is_le, is_gt, is_eq}
use Rattle.rmt_values.specs.declared.value.Value.{Value}
use Rattle.rmt_values.specs.declared.cmp.Cmp.{Cmp}
use Rattle.rmt_values.specs.declared.cmp.Cmp.TheVariants as cmps
use Rattle.rmt_values.specs.declared.checked.Checked.{Checked}
use Rattle.rmt_values.specs.declared.checked.Checked.TheOpen.{Checked-F, Test, Both, Either, Not}
use Rattle.rmt_values.specs.declared.checked.Checked.TheFolds.{fold-Checked}
use Rattle.rmt_values.specs.declared.kind.Kind.{Kind}
use Rattle.rmt_values.specs.Rows.{Shape, kind_at, kind_of, is_value, is_of, value_cmp}

-- the comparison holds of values in this order
abbrev pub test_holds : Cmp → Ordering → Bool
test_holds cmps.Eq o = is_eq o
test_holds cmps.Ne o = not (is_eq o)
test_holds cmps.Lt o = is_lt o
test_holds cmps.Le o = is_le o
test_holds cmps.Gt o = is_gt o
test_holds cmps.Ge o = not (is_lt o)

-- the comparison holds of a cell that is there
abbrev pub cell_holds : Cmp → Option Value → Value → Bool
cell_holds cmp None v = false
cell_holds cmp (Some u) v = test_holds cmp (value_cmp u v)

-- whether one level of a filter keeps a row, from the answers of the filters inside it
abbrev pub keeps : List Value → Checked-F Bool → Bool
keeps row (Test at cmp value) = cell_holds cmp (slice_get row at) value
keeps row (Both f g) = f && g
keeps row (Either f g) = f || g
keeps row (Not f) = not f

-- whether a filter keeps a row
abbrev pub holds : Checked → List Value → Bool
holds filter row = fold-Checked Bool (keeps row) filter

-- the column is there, and the value is one of its type
pub record IsOfColumn (shape : Shape) (column : ℕ) (value : Value) : Type 0 where
  pub kind : kind_at shape.columns column ≡ Some (kind_of value)
  pub is_value : is_value value ≡ true

-- the value is one of this type, where there is a type
abbrev pub is_of_kind : Option Kind → Value → Bool
is_of_kind None value = false
is_of_kind (Some kind) value = is_of kind value

-- whether one level is over the columns of a schema, from the answers of the filters inside it
abbrev pub level_fits : Shape → Checked-F Bool → Bool
level_fits shape (Test column cmp value) = is_of_kind (kind_at shape.columns column) value
level_fits shape (Both f g) = f && g
level_fits shape (Either f g) = f && g
level_fits shape (Not f) = f

-- a filter over the columns of a schema
abbrev pub FilterFits : Shape → Checked → Type 0
FilterFits shape filter = fold-Checked Bool (level_fits shape) filter ≡ true
