-- What a command is over the columns of a schema, and why it is refused.
-- ClickHouse documentation: ALTER TABLE .. UPDATE, ALTER TABLE .. DELETE. The order of the checks, and that no
-- value is converted to another type, are this program's own.
use Rattle.std.specs.Prelude.{◌≡◌, ℕ, cond, nat_eq, ◌&&◌, ◌||◌, Bool, false, List, [], ◌∷◌}
use Rattle.std.specs.Option.{option_or, option_map, is_some}
use Rattle.std.specs.declared.option.Option.{Option}
use Rattle.std.specs.declared.option.Option.TheVariants.{Some, None}
use Rattle.rmt_values.specs.declared.kind.Kind.{Kind}
use Rattle.rmt_values.specs.declared.right.Right.{Right}
use Rattle.rmt_values.specs.declared.right.Right.TheVariants as written
use Rattle.rmt_values.specs.declared.literal.Literal.{Literal}
use Rattle.rmt_values.specs.declared.mutation.Mutation.{Mutation}
use Rattle.rmt_values.specs.declared.mutation.Mutation.TheVariants as command
use Rattle.rmt_values.specs.declared.filter.Filter.{Filter}
use Rattle.rmt_values.specs.declared.checked_right.CheckedRight.{CheckedRight}
use Rattle.rmt_values.specs.declared.checked_right.CheckedRight.TheVariants as right
use Rattle.rmt_values.specs.declared.checked_mutation.CheckedMutation.{CheckedMutation}
use Rattle.rmt_values.specs.declared.checked_mutation.CheckedMutation.TheVariants.{Update, Delete}
use Rattle.rmt_values.specs.Rows.{Shape, place_from, same_kind, kind_named}
use Rattle.rmt_values.specs.Schemas.{first_double}
use Rattle.rmt_values.specs.Commands.{is_number, rule_columns}
use Rattle.rmt_values.specs.Literals.{literal_value}
use Rattle.rmt_expr.specs.Checks.{IsColumn, checked_of, unknown_name, unknown_in, type_error_in}
use Rattle.rmt_expr.specs.declared.mutation_error.MutationError.{MutationError}
use Rattle.rmt_expr.specs.declared.mutation_error.MutationError.TheVariants as refusal

-- the checked form of what a column of this type is set to: places for names, values of this type for literals
abbrev pub IsRight : Shape → Kind → Right → CheckedRight → Type 0
IsRight shape kind (written.Literal l) (right.Literal v) = literal_value kind l ≡ Some v
IsRight shape kind (written.Column n) (right.Column p) = place_from 0 shape.columns n ≡ Some p
IsRight shape kind (written.Plus n l) (right.Plus p v) = (place_from 0 shape.columns n ≡ Some p) × (literal_value kind l ≡ Some v)
IsRight shape kind (written.Minus n l) (right.Minus p v) = (place_from 0 shape.columns n ≡ Some p) × (literal_value kind l ≡ Some v)
IsRight shape kind w r = ⊥

-- the checked form of one set of an UPDATE
pub record IsSet (shape : Shape) (name : List ℕ) (what : Right) (place : ℕ) (value : CheckedRight) : Type 0 where
  pub kind : Kind
  pub column : IsColumn shape name place kind
  pub set_to : IsRight shape kind what value

-- the checked forms of all sets, pair by pair
abbrev pub AreSets : Shape → List (List ℕ × Right) → List (ℕ × CheckedRight) → Type 0
AreSets shape [] [] = Unit {0}
AreSets shape [] (t ∷ ts) = ⊥
AreSets shape (x ∷ xs) [] = ⊥
AreSets shape (x ∷ xs) (t ∷ ts) = IsSet shape x.0 x.1 t.0 t.1 × AreSets shape xs ts

-- the checked form of a command
abbrev pub IsCheckedMutation : Shape → Mutation → CheckedMutation → Type 0
IsCheckedMutation shape (command.Update sets filter) (Update sets' filter') = AreSets shape sets sets' × (checked_of shape filter ≡ Some filter')
IsCheckedMutation shape (command.Delete filter) (Delete filter') = checked_of shape filter ≡ Some filter'
IsCheckedMutation shape m c = ⊥

-- ---- refusals

-- the name on a right side, where no column has it
abbrev pub unknown_right : Shape → Right → Option (List ℕ)
unknown_right shape (written.Literal l) = None
unknown_right shape (written.Column n) = unknown_name shape n
unknown_right shape (written.Plus n l) = unknown_name shape n
unknown_right shape (written.Minus n l) = unknown_name shape n

-- the first name of the sets that no column has, each left side before its right side
abbrev pub unknown_in_sets : Shape → List (List ℕ × Right) → Option (List ℕ)
unknown_in_sets shape [] = None
unknown_in_sets shape (x ∷ xs) = option_or (unknown_name shape x.0) (option_or (unknown_right shape x.1) (unknown_in_sets shape xs))

-- there is a column, and it has this type
abbrev pub is_kind : Kind → Option Kind → Bool
is_kind kind None = false
is_kind kind (Some other) = same_kind other kind

-- the type is one of numbers, the column is of it, and the literal has a value of it
abbrev pub may_add : Shape → Kind → List ℕ → Literal → Bool
may_add shape kind name by = is_number kind && (is_kind kind (kind_named shape.columns name) && is_some (literal_value kind by))

-- a column of this type may be set so: to a value of its type, to a column of its type, or, if it is one of numbers, to
-- such a column plus or minus such a value
abbrev pub may_be : Shape → Kind → Right → Bool
may_be shape kind (written.Literal l) = is_some (literal_value kind l)
may_be shape kind (written.Column n) = is_kind kind (kind_named shape.columns n)
may_be shape kind (written.Plus n l) = may_add shape kind n l
may_be shape kind (written.Minus n l) = may_add shape kind n l

-- there is such a column, and it may be set so
abbrev pub may_set : Shape → Option Kind → Right → Bool
may_set shape None what = false
may_set shape (Some kind) what = may_be shape kind what

-- the first left side whose column may not be set so
abbrev pub type_error_in_sets : Shape → List (List ℕ × Right) → Option (List ℕ)
type_error_in_sets shape [] = None
type_error_in_sets shape (x ∷ xs) = cond (may_set shape (kind_named shape.columns x.0) x.1) (type_error_in_sets shape xs) (Some x.0)

-- the place is one of these
abbrev pub among : List ℕ → ℕ → Bool
among [] place = false
among (p ∷ ps) place = nat_eq p place || among ps place

-- there is a place, and no UPDATE sets its column: it is one of the sorting key, or that of the partition rule
abbrev pub is_fixed : Shape → Option ℕ → Bool
is_fixed shape None = false
is_fixed shape (Some place) = among shape.key place || among (rule_columns shape.partition) place

-- the first left side that is such a column
abbrev pub fixed_in_sets : Shape → List (List ℕ × Right) → Option (List ℕ)
fixed_in_sets shape [] = None
fixed_in_sets shape (x ∷ xs) = cond (is_fixed shape (place_from 0 shape.columns x.0)) (Some x.0) (fixed_in_sets shape xs)

-- the columns that are set, by their names
abbrev pub lefts : List (List ℕ × Right) → List (List ℕ)
lefts [] = []
lefts (x ∷ xs) = x.0 ∷ lefts xs

-- why an UPDATE is refused: the first reason in the order of checks, each for the first name that it holds for
unfoldable pub update_refusal : Shape → List (List ℕ × Right) → Filter → Option MutationError
update_refusal shape sets filter =
    option_or (option_map (λ n. refusal.UnknownColumn n) (option_or (unknown_in_sets shape sets) (unknown_in shape filter)))
    (option_or (option_map (λ n. refusal.DoubleColumn n) (first_double (lefts sets)))
    (option_or (option_map (λ n. refusal.WrongType n) (option_or (type_error_in_sets shape sets) (type_error_in shape filter)))
    (option_map (λ n. refusal.KeyColumn n) (fixed_in_sets shape sets))))

-- why a DELETE is refused
unfoldable pub delete_refusal : Shape → Filter → Option MutationError
delete_refusal shape filter =
    option_or (option_map (λ n. refusal.UnknownColumn n) (unknown_in shape filter))
    (option_map (λ n. refusal.WrongType n) (type_error_in shape filter))

-- why a command is refused
abbrev pub mutation_refusal : Shape → Mutation → Option MutationError
mutation_refusal shape (command.Update sets filter) = update_refusal shape sets filter
mutation_refusal shape (command.Delete filter) = delete_refusal shape filter
