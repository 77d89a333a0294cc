-- Names of parts in order, of which no two share a number.
-- ClickHouse documentation, MergeTree, "Data storage": the active parts of a table have block ranges that don't overlap.
use Rattle.std.specs.Prelude.{◌≡◌, ℕ, ◌≤◌, List, not, filter, slice_get, MatchOption}
use Rattle.std.specs.List.{remove_range, insert}
use Rattle.std.specs.declared.option.Option.{Option}
use Rattle.std.specs.declared.option.Option.TheVariants.{Some}
use Rattle.rmt_names.specs.Names.{Name, Covers}
use Rattle.rmt_model.specs.Words.{Has, Each, Pairwise}
use Rattle.rmt_model.specs.Live.{Before, placed, in_drop}
use Rattle.rmt_nameset.specs.declared.range.Range.{Range}

-- the names, and how many more there is room for
pub record NamesInOrder : Type 0 where
  pub names : List Name
  pub room : ℕ

-- names in order that share no number
pub record AreApart (names : List Name) : Type 0 where
  pub apart : Pairwise Before names
  pub sized : Each (λ a. a.min ≤ a.max) names

-- the range is in a list of this length
pub record IsRange (range : Range) (len : ℕ) : Type 0 where
  pub order : range.from ≤ range.to
  pub bound : range.to ≤ len

-- the elements without those of the range
abbrev pub cut : {A : Type 0} → List A → Range → List A
cut xs range = remove_range xs range.from range.to

-- the elements with x in place of those of the range
abbrev pub put : {A : Type 0} → List A → Range → A → List A
put xs range x = insert (cut xs range) range.from x

-- the name at a place covers a
pub record CoversAt (names : List Name) (a : Name) (i : ℕ) : Type 0 where
  pub name : Name
  pub stands : slice_get names i ≡ Some name
  pub covers : Covers name a

-- where the name stands that covers a; nowhere exactly where none does
abbrev pub IsCoveredAt : List Name → Name → Option ℕ → Type 0
IsCoveredAt names a found = MatchOption found ((name : Name) → Has names name → Covers name a → ⊥) (CoversAt names a)

-- with the new name in their place, the names of the range are those that it covers
abbrev pub IsCoveredBy : Name → List Name → Range → Type 0
IsCoveredBy new names range = put names range new ≡ placed new names

-- the names of the range are those that a drop takes away
abbrev pub IsDroppedBy : Option ℕ → ℕ → List Name → Range → Type 0
IsDroppedBy p n names range = cut names range ≡ filter (λ a. not (in_drop p n a)) names
