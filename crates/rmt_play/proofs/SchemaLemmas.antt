-- Which refusals a schema has.
use Rattle.std.proofs.Common.{◌≡◌, ◌≤◌, ℕ, Bool, true, false, cond, arith, List, [], ◌∷◌, length, refl, subst}
use Rattle.std.specs.Prelude.{nat_le, IfErr}
use Rattle.std.specs.declared.result.Result.{Result}
use Rattle.std.specs.declared.result.Result.TheVariants.{Ok, Err}
use Rattle.std.specs.Option.{option_or, option_map}
use Rattle.std.specs.declared.option.Option.{Option}
use Rattle.std.specs.declared.option.Option.TheVariants.{Some, None}
use Rattle.rmt_values.specs.declared.column.Column.{Column}
use Rattle.rmt_values.specs.declared.limit.Limit.TheVariants as limits
use Rattle.rmt_values.specs.declared.schema_error.SchemaError.{SchemaError}
use Rattle.rmt_values.specs.declared.schema_error.SchemaError.TheVariants.{UnknownColumn, DoubleColumn, WrongType, LimitReached}
use Rattle.rmt_values.specs.Schemas.{schema_refusal, no_columns, unknown_in_rule, first_unknown, first_double, names_of, wrong_rule, wrong_setting, too_many}
use Rattle.rmt_values.specs.Rows.{is_empty}
use Rattle.rmt_play.specs.PlayerSteps.{IsCreateRefusal}

-- ---- a CREATE with columns isn't refused for having none, nor for lack of memory

or-some : (P : SchemaError → Type 0) (a b : Option SchemaError) → ((e : SchemaError) → a ≡ Some e → P e) → ((e : SchemaError) → b ≡ Some e → P e) → (e : SchemaError) → option_or a b ≡ Some e → P e
or-some P None b f g e q = g e q
or-some P (Some x) b f g e q = f e q

named-some : (P : SchemaError → Type 0) (make : List ℕ → SchemaError) (o : Option (List ℕ)) → ((name : List ℕ) → P (make name)) → (e : SchemaError) → option_map make o ≡ Some e → P e
named-some P make None f e q = absurd (cc)
named-some P make (Some name) f e q = let same : make name ≡ e = cc in subst P same (f name)

no-columns-refuses : (columns : List Column) → is_empty columns ≡ false → (e : SchemaError) → no_columns columns ≡ Some e → IsCreateRefusal e
no-columns-refuses [] n e q = absurd (cc)
no-columns-refuses (c ∷ columns) n e q = absurd (cc)

too-many-refuses : (columns : List Column) (e : SchemaError) → too_many columns ≡ Some e → IsCreateRefusal e
too-many-refuses columns e q = go (nat_le (length columns) 64) q
  where
    go : (b : Bool) → cond b None (Some (LimitReached limits.Columns 64)) ≡ Some e → IsCreateRefusal e
    go true k = absurd (cc)
    go false k = let same : LimitReached limits.Columns 64 ≡ e = cc in subst IsCreateRefusal same tt

pub create-refusal : (columns : List Column) (key : List (List ℕ)) (rule : Option (List ℕ × ℕ)) (granularity window : ℕ) (e : SchemaError) → is_empty columns ≡ false → schema_refusal columns key rule granularity window ≡ Some e → IsCreateRefusal e
unfolding schema_refusal
create-refusal columns key rule granularity window e n q =
    or-some IsCreateRefusal _ _ (no-columns-refuses columns n)
    (or-some IsCreateRefusal _ _ (named-some IsCreateRefusal (λ m. UnknownColumn m) (option_or (unknown_in_rule columns rule) (first_unknown (names_of columns) key)) (λ m. tt))
    (or-some IsCreateRefusal _ _ (named-some IsCreateRefusal (λ m. DoubleColumn m) (first_double (names_of columns)) (λ m. tt))
    (or-some IsCreateRefusal _ _ (named-some IsCreateRefusal (λ m. DoubleColumn m) (first_double key) (λ m. tt))
    (or-some IsCreateRefusal _ _ (named-some IsCreateRefusal (λ m. WrongType m) (option_or (wrong_rule columns rule) (wrong_setting granularity window)) (λ m. tt))
    (too-many-refuses columns))))) e q

pub create-refusable : {S : Type 0} (made : Result S SchemaError) (columns : List Column) (key : List (List ℕ)) (rule : Option (List ℕ × ℕ)) (granularity window : ℕ) → 1 ≤ length columns
    → IfErr made (λ e. schema_refusal columns key rule granularity window ≡ Some e) → IfErr made IsCreateRefusal
create-refusable (Ok s) columns key rule granularity window n q = tt
create-refusable (Err e) columns key rule granularity window n q = create-refusal columns key rule granularity window e (not-empty columns n) q
  where
    not-empty : (columns : List Column) → 1 ≤ length columns → is_empty columns ≡ false
    not-empty [] n = absurd (omega (arith, n))
    not-empty (c ∷ columns) n = refl
