-- Granules and marks: the sparse primary index of a part.
-- ClickHouse documentation: A practical introduction to primary indexes in ClickHouse (sparse primary index, granules,
-- marks). That there is no final mark is this program's own.
use Rattle.std.specs.Prelude.{◌≡◌, ℕ, zero, suc, ◌+◌, ◌-◌, ◌*◌, ◌<◌, cond, nat_lt, min, false, List, [], ◌∷◌, ◌++◌, length, slice_get}
use Rattle.std.specs.Option.{option_to_list}
use Rattle.std.specs.declared.option.Option.{Option}
use Rattle.std.specs.declared.option.Option.TheVariants.{Some, None}
use Rattle.std.specs.declared.cmp.Ordering.{Ordering}
use Rattle.std.specs.Ordering.{is_gt}
use Rattle.std.specs.List.{All}
use Rattle.std.specs.List.Sorted.{IsSorted}
use Rattle.rmt_values.specs.declared.value.Value.{Value}
use Rattle.rmt_values.specs.declared.kind.Kind.{Kind}
use Rattle.rmt_values.specs.Rows.{AllBelow, cell_cmp, key_cmp}

-- a part as contracts see it: its rows, a mark for each granule, the places of the key's columns, the rows of a
-- granule, and the types of the columns
pub record PartView : Type 0 where
  pub rows : List (List Value)
  pub marks : List (List Value)
  pub key : List ℕ
  pub granularity : ℕ
  pub kinds : List Kind

-- the values of a row in the key's columns
abbrev pub key_values : List ℕ → List Value → List Value
key_values [] row = []
key_values (c ∷ cs) row = option_to_list (slice_get row c) ++ key_values cs row

-- the keys of a row and of each n-th one after it, after some that are passed over
abbrev pub marks_after : ℕ → ℕ → List ℕ → List (List Value) → List (List Value)
marks_after passed n key [] = []
marks_after zero n key (r ∷ rs) = key_values key r ∷ marks_after (n - 1) n key rs
marks_after (suc passed) n key (r ∷ rs) = marks_after passed n key rs

-- the key of each granule's first row
abbrev pub marks_of : ℕ → List ℕ → List (List Value) → List (List Value)
marks_of n key rows = marks_after 0 n key rows

-- what a part keeps: its rows are sorted by key, and each mark is the key of its granule's first row
pub record IsPart (part : PartView) : Type 0 where
  pub sorted : IsSorted (key_cmp part.key) part.rows
  pub marked : part.marks ≡ marks_of part.granularity part.key part.rows
  pub positive : 0 < part.granularity
  pub wide : All (λ row. length row ≡ length part.kinds) part.rows
  pub key_there : AllBelow (length part.kinds) part.key

-- the rows of granule g, from the first to past the last
abbrev pub granule_of : PartView → ℕ → Option (ℕ × ℕ)
granule_of part g =
    cond (nat_lt g (length part.marks))
    (Some (g * part.granularity, min ((g + 1) * part.granularity) (length part.rows)))
    None

-- ---- how marks rise

-- the order of marks by their first values
abbrev pub first_cmp : List Value → List Value → Ordering
first_cmp a b = cell_cmp (slice_get a 0) (slice_get b 0)

-- it is above none of them
abbrev pub AboveNone : List Value → List (List Value) → Type 0
AboveNone m [] = Unit {0}
AboveNone m (k ∷ ks) = (is_gt (first_cmp m k) ≡ false) × AboveNone m ks

-- no mark is above a later one
abbrev pub Rising : List (List Value) → Type 0
Rising [] = Unit {0}
Rising (m ∷ ms) = AboveNone m ms × Rising ms
