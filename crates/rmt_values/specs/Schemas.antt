-- Which columns, key, partition rule and settings make a schema, and why others don't.
-- ClickHouse documentation: CREATE TABLE; MergeTree, ORDER BY, PARTITION BY and `index_granularity`; data replication,
-- `replicated_deduplication_window`. The ranges of the settings and the limit of columns are this program's own.
use Rattle.std.specs.Prelude.{◌≡◌, ℕ, ◌≤◌, ◌||◌, ◌&&◌, cond, nat_le, length, Bool, true, false, List, [], ◌∷◌, map, codes}
use Rattle.std.specs.Option.{option_or, option_map, unwrap_or}
use Rattle.std.specs.Str.{bytes_eq}
use Rattle.std.specs.declared.option.Option.{Option}
use Rattle.std.specs.declared.option.Option.TheVariants.{Some, None}
use Rattle.rmt_values.specs.declared.column.Column.{Column}
use Rattle.rmt_values.specs.declared.limit.Limit.TheVariants as limits
use Rattle.rmt_values.specs.declared.schema_error.SchemaError.{SchemaError}
use Rattle.rmt_values.specs.declared.schema_error.SchemaError.TheVariants.{NoColumns, UnknownColumn, DoubleColumn, WrongType, LimitReached}
use Rattle.rmt_values.specs.declared.kind.Kind.{Kind}
use Rattle.rmt_values.specs.declared.kind.Kind.TheVariants as kinds
use Rattle.rmt_values.specs.declared.partition_rule.PartitionRule.{PartitionRule}
use Rattle.rmt_values.specs.Partitions.{IsRule}
use Rattle.rmt_values.specs.Rows.{Shape, AllBelow, place_from, kind_named}

-- the names of the columns
abbrev pub names_of : List Column → List (List ℕ)
names_of columns = map (λ c. c.name) columns

-- the name is one of these
abbrev pub has_name : List (List ℕ) → List ℕ → Bool
has_name [] name = false
has_name (n ∷ ns) name = bytes_eq n name || has_name ns name

-- the first name that isn't one of those known
abbrev pub first_unknown : List (List ℕ) → List (List ℕ) → Option (List ℕ)
first_unknown known [] = None
first_unknown known (n ∷ ns) = cond (has_name known n) (first_unknown known ns) (Some n)

-- the first name that the list has again after it
abbrev pub first_double : List (List ℕ) → Option (List ℕ)
first_double [] = None
first_double (n ∷ ns) = cond (has_name ns n) (Some n) (first_double ns)

-- the rule's column as it is written, where there is a rule, and no column has that name
abbrev pub unknown_in_rule : List Column → Option (List ℕ × ℕ) → Option (List ℕ)
unknown_in_rule columns None = None
unknown_in_rule columns (Some rule) = cond (has_name (names_of columns) rule.0) None (Some rule.0)

-- there is a column, and it is one of UInt64
abbrev pub is_uint64 : Option Kind → Bool
is_uint64 None = false
is_uint64 (Some kinds.UInt64) = true
is_uint64 (Some kinds.Int64) = false
is_uint64 (Some kinds.Text) = false

-- the rule's column, where it isn't one of UInt64 or the divisor is 0
abbrev pub wrong_rule : List Column → Option (List ℕ × ℕ) → Option (List ℕ)
wrong_rule columns None = None
wrong_rule columns (Some rule) = cond (is_uint64 (kind_named columns rule.0) && nat_le 1 rule.1) None (Some rule.0)

-- the first setting whose number is out of its range
abbrev pub wrong_setting : ℕ → ℕ → Option (List ℕ)
wrong_setting granularity window =
    option_or
    (cond (nat_le 1 granularity && nat_le granularity 65536) None (Some (codes "index_granularity")))
    (cond (nat_le window 100000) None (Some (codes "replicated_deduplication_window")))

-- there are no columns
abbrev pub no_columns : List Column → Option SchemaError
no_columns [] = Some NoColumns
no_columns (c ∷ cs) = None

-- there are more than 64 columns
abbrev pub too_many : List Column → Option SchemaError
too_many columns = cond (nat_le (length columns) 64) None (Some (LimitReached limits.Columns 64))

-- why these make no schema: the first reason in the order of checks, each for the first name that it holds for, of the
-- columns, the rule, the key and the settings
unfoldable pub schema_refusal : List Column → List (List ℕ) → Option (List ℕ × ℕ) → ℕ → ℕ → Option SchemaError
schema_refusal columns key rule granularity window =
    option_or (no_columns columns)
    (option_or (option_map (λ n. UnknownColumn n) (option_or (unknown_in_rule columns rule) (first_unknown (names_of columns) key)))
    (option_or (option_map (λ n. DoubleColumn n) (first_double (names_of columns)))
    (option_or (option_map (λ n. DoubleColumn n) (first_double key))
    (option_or (option_map (λ n. WrongType n) (option_or (wrong_rule columns rule) (wrong_setting granularity window)))
    (too_many columns)))))

-- the place of the column of this name; 0 where no column has it
abbrev pub place_of : List Column → List ℕ → ℕ
place_of columns name = unwrap_or (place_from 0 columns name) 0

-- the places of the columns of these names
abbrev pub places_of : List Column → List (List ℕ) → List ℕ
places_of columns names = map (place_of columns) names

-- the rule, with the place of its column
abbrev pub rule_of : List Column → Option (List ℕ × ℕ) → Option PartitionRule
rule_of columns None = None
rule_of columns (Some rule) = Some (record { column = place_of columns rule.0; divisor = rule.1 })

-- the schema of these columns, with places for names
abbrev pub shape_of : List Column → List (List ℕ) → Option (List ℕ × ℕ) → ℕ → ℕ → Shape
shape_of columns key rule granularity window = record {
  columns = columns;
  key = places_of columns key;
  partition = rule_of columns rule;
  granularity = granularity;
  window = window;
}

-- no element is x
abbrev pub HasNot : {X : Type 0} → X → List X → Type 0
HasNot x [] = Unit {0}
HasNot x (y ∷ ys) = (y ≡ x → ⊥) × HasNot x ys

-- no two elements are the same
abbrev pub AreDistinct : {X : Type 0} → List X → Type 0
AreDistinct [] = Unit {0}
AreDistinct (x ∷ xs) = HasNot x xs × AreDistinct xs

-- what holds of every schema
pub record IsSchema (shape : Shape) : Type 0 where
  pub has_columns : 1 ≤ length shape.columns
  pub few_columns : length shape.columns ≤ 64
  pub names_differ : AreDistinct (names_of shape.columns)
  pub key_there : AllBelow (length shape.columns) shape.key
  pub key_differs : AreDistinct shape.key
  pub rule : IsRule shape.columns shape.partition
  pub some_granularity : 1 ≤ shape.granularity
  pub small_granularity : shape.granularity ≤ 65536
  pub small_window : shape.window ≤ 100000
