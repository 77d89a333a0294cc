-- What a filter is over the columns of a schema, and why it is refused.
-- ClickHouse documentation: SELECT, WHERE. The order of the checks is this program's own.
use Rattle.std.specs.Prelude.{◌≡◌, ℕ, List}
use Rattle.std.specs.Option.{option_or, option_map}
use Rattle.std.specs.declared.option.Option.{Option}
use Rattle.std.specs.declared.option.Option.TheVariants.{Some, None}
use Rattle.rmt_values.specs.declared.value.Value.{Value}
use Rattle.rmt_values.specs.declared.kind.Kind.{Kind}
use Rattle.rmt_values.specs.declared.cmp.Cmp.{Cmp}
use Rattle.rmt_values.specs.declared.literal.Literal.{Literal}
use Rattle.rmt_values.specs.declared.filter.Filter.{Filter}
use Rattle.rmt_values.specs.declared.filter.Filter.TheOpen.{Filter-F, Test, Both, Either, Not}
use Rattle.rmt_values.specs.declared.filter.Filter.TheFolds.{fold-Filter}
use Rattle.rmt_values.specs.declared.checked.Checked.{Checked}
use Rattle.rmt_values.specs.declared.checked.Checked.TheVariants as placed
use Rattle.rmt_values.specs.Rows.{Shape, place_from, kind_at, kind_named}
use Rattle.rmt_values.specs.Literals.{literal_value}
use Rattle.rmt_expr.specs.declared.check_error.CheckError.{CheckError}
use Rattle.rmt_expr.specs.declared.check_error.CheckError.TheVariants as refusal

-- the column of this name is at this place and has this type
pub record IsColumn (shape : Shape) (name : List ℕ) (place : ℕ) (kind : Kind) : Type 0 where
  pub there : place_from 0 shape.columns name ≡ Some place
  pub typed : kind_at shape.columns place ≡ Some kind

-- the name, where there is nothing else
abbrev pub unless_some : {X : Type 0} → List ℕ → Option X → Option (List ℕ)
unless_some name None = Some name
unless_some name (Some x) = None

-- the name, where no column has it
abbrev pub unknown_name : Shape → List ℕ → Option (List ℕ)
unknown_name shape name = unless_some name (kind_named shape.columns name)

-- the value of a literal in a column of this type, if there is such a column and value
abbrev pub value_in : Literal → Option Kind → Option Value
value_in literal None = None
value_in literal (Some kind) = literal_value kind literal

-- the test of the column at this place with this value, where there are both
abbrev pub test_of : Cmp → Option ℕ → Option Value → Option Checked
test_of cmp None value = None
test_of cmp (Some place) None = None
test_of cmp (Some place) (Some value) = Some (placed.Test place cmp value)

-- two filters put together, where there are both
abbrev pub joined : (Checked → Checked → Checked) → Option Checked → Option Checked → Option Checked
joined make None g = None
joined make (Some f) None = None
joined make (Some f) (Some g) = Some (make f g)

-- the checked form of one level, from those of the filters inside it
abbrev pub checked_level : Shape → Filter-F (Option Checked) → Option Checked
checked_level shape (Test name cmp literal) = test_of cmp (place_from 0 shape.columns name) (value_in literal (kind_named shape.columns name))
checked_level shape (Both f g) = joined (λ f g. placed.Both f g) f g
checked_level shape (Either f g) = joined (λ f g. placed.Either f g) f g
checked_level shape (Not f) = option_map (λ f. placed.Not f) f

-- the checked form of a filter, if it has one: places for names, values for literals, and nothing else changed
abbrev pub checked_of : Shape → Filter → Option Checked
checked_of shape filter = fold-Filter (Option Checked) (checked_level shape) filter

-- the first name of one level that no column has, from those of the filters inside it
abbrev pub unknown_level : Shape → Filter-F (Option (List ℕ)) → Option (List ℕ)
unknown_level shape (Test name cmp literal) = unknown_name shape name
unknown_level shape (Both f g) = option_or f g
unknown_level shape (Either f g) = option_or f g
unknown_level shape (Not f) = f

-- the first name of the filter that no column has
abbrev pub unknown_in : Shape → Filter → Option (List ℕ)
unknown_in shape filter = fold-Filter (Option (List ℕ)) (unknown_level shape) filter

-- the first name of one level that is compared with what is no value of its column, from those of the filters inside it
abbrev pub type_error_level : Shape → Filter-F (Option (List ℕ)) → Option (List ℕ)
type_error_level shape (Test name cmp literal) = unless_some name (value_in literal (kind_named shape.columns name))
type_error_level shape (Both f g) = option_or f g
type_error_level shape (Either f g) = option_or f g
type_error_level shape (Not f) = f

-- the first name of the filter that is compared with what is no value of its column
abbrev pub type_error_in : Shape → Filter → Option (List ℕ)
type_error_in shape filter = fold-Filter (Option (List ℕ)) (type_error_level shape) filter

-- why a filter is refused: an unknown column anywhere comes before a wrong type
unfoldable pub filter_refusal : Shape → Filter → Option CheckError
filter_refusal shape f =
    option_or (option_map (λ n. refusal.UnknownColumn n) (unknown_in shape f))
    (option_map (λ n. refusal.WrongType n) (type_error_in shape f))
