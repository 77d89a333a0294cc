-- The forms that the steps of a check make. No public clause cites this module.
use Rattle.std.specs.Prelude.{◌≡◌, ℕ, true, List, [], ◌∷◌}
use Rattle.std.specs.declared.option.Option.TheVariants.{Some}
use Rattle.rmt_values.specs.declared.right.Right.{Right}
use Rattle.rmt_values.specs.declared.checked_right.CheckedRight.{CheckedRight}
use Rattle.rmt_values.specs.Rows.{Shape, place_from}
use Rattle.rmt_values.specs.Commands.{RightFits, AddsUp}
use Rattle.rmt_values.specs.Literals.{literal_value}
use Rattle.rmt_expr.specs.Mutations.{IsSet, may_add}
use Rattle.rmt_values.specs.declared.kind.Kind.{Kind}
use Rattle.rmt_values.specs.declared.value.Value.{Value}
use Rattle.rmt_values.specs.declared.literal.Literal.{Literal}
use Rattle.rmt_expr.specs.declared.check_error.CheckError.{CheckError}
use Rattle.rmt_expr.specs.declared.check_error.CheckError.TheVariants as narrow
use Rattle.rmt_expr.specs.declared.mutation_error.MutationError.{MutationError}
use Rattle.rmt_expr.specs.declared.mutation_error.MutationError.TheVariants as refusal

-- the checked form of a set, which fits the schema
pub record IsPlaced (shape : Shape) (name : List ℕ) (what : Right) (place : ℕ) (value : CheckedRight) : Type 0 where
  pub set : IsSet shape name what place value
  pub fits : RightFits shape place value

-- the same of all sets, pair by pair
abbrev pub ArePlaced : Shape → List (List ℕ × Right) → List (ℕ × CheckedRight) → Type 0
ArePlaced shape [] [] = Unit {0}
ArePlaced shape [] (t ∷ ts) = ⊥
ArePlaced shape (x ∷ xs) [] = ⊥
ArePlaced shape (x ∷ xs) (t ∷ ts) = IsPlaced shape x.0 x.1 t.0 t.1 × ArePlaced shape xs ts

-- a literal that is added to a column of the target's type, or taken from it, with its place and value
pub record IsAdded (shape : Shape) (target : ℕ) (kind : Kind) (name : List ℕ) (by : Literal) (place : ℕ) (value : Value) : Type 0 where
  pub may : may_add shape kind name by ≡ true
  pub there : place_from 0 shape.columns name ≡ Some place
  pub valued : literal_value kind by ≡ Some value
  pub fits : AddsUp shape target place value

-- a filter's refusal as a command's
abbrev pub widened : CheckError → MutationError
widened (narrow.UnknownColumn n) = refusal.UnknownColumn n
widened (narrow.WrongType n) = refusal.WrongType n
widened narrow.Memory = refusal.Memory
