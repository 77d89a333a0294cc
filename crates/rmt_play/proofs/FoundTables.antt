-- The table of a name among tables with their names.
use Rattle.std.specs.Prelude.{◌≡◌, ◌<◌, ℕ, true, List, slice_get, MatchOption}
use Rattle.std.specs.declared.option.Option.{Option}
use Rattle.std.specs.declared.option.Option.TheVariants.{Some}
use Rattle.std.specs.Str.{bytes_eq}
use Rattle.rmt_play.specs.PlayerSteps.{Sights, NamedTable}

-- the table at a place has the name, and none before it has
pub record IsPlaceOf {e : Sights} (tables : List (NamedTable e)) (name : List ℕ) (place : ℕ) : Type 0 where
  pub table : NamedTable e
  pub there : slice_get tables place ≡ Some table
  pub named : bytes_eq table.name name ≡ true
  pub first : (j : ℕ) (t : NamedTable e) → j < place → slice_get tables j ≡ Some t → bytes_eq t.name name ≡ true → ⊥

-- no table has the name
abbrev pub HasNone : {e : Sights} → List (NamedTable e) → List ℕ → Type 0
HasNone {e} tables name = (j : ℕ) (t : NamedTable e) → slice_get tables j ≡ Some t → bytes_eq t.name name ≡ true → ⊥

-- the place of the first table of this name, where there is one
abbrev pub IsFound : {e : Sights} → List (NamedTable e) → List ℕ → Option ℕ → Type 0
IsFound tables name place = MatchOption place (HasNone tables name) (IsPlaceOf tables name)
