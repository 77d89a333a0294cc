-- Whether an entry of a copy of the log is still to be done at a replica with these marks and these active parts.
-- ClickHouse documentation, Data Replication: a part that exists already or was dropped is not made again.
use Rattle.std.specs.Prelude.{◌≡◌, ◌⊎◌, ℕ, Bool, true, List}
use Rattle.std.specs.declared.option.Option.TheVariants.{Some}
use Rattle.rmt_names.specs.Names.{Name}
use Rattle.rmt_entries.specs.declared.entry.Entry.{Entry}
use Rattle.rmt_model.specs.Live.{Dropped}
use Rattle.rmt_model.specs.Lawful.{MakesAt, entry_at, is_mutation}
use Rattle.rmt_model.specs.Fair.{CoveredBy}

-- an active part covers the part that the entry at the place makes
pub record IsCoveredEntry (log : List Entry) (names : List Name) (i : ℕ) : Type 0 where
  pub name : Name
  pub makes : MakesAt log i name
  pub covered : CoveredBy names name

-- a later drop takes away the part that the entry at the place makes
pub record IsDroppedEntry (log : List Entry) (i : ℕ) : Type 0 where
  pub name : Name
  pub makes : MakesAt log i name
  pub dropped : Dropped log name

-- the entry at the place is a Mutation
pub record IsMutationEntry (log : List Entry) (i : ℕ) : Type 0 where
  pub entry : Entry
  pub stands : entry_at log i ≡ Some entry
  pub is : is_mutation entry ≡ true

-- nothing is left to do for the entry at the place: it is marked, a Mutation, or covered
abbrev pub IsAlready : List Entry → (ℕ → Bool) → List Name → ℕ → Type 0
IsAlready log marked names i = (marked i ≡ true) ⊎ (IsMutationEntry log i ⊎ IsCoveredEntry log names i)

-- the entry at the place is still to be done
pub record Waits (log : List Entry) (marked : ℕ → Bool) (names : List Name) (i : ℕ) : Type 0 where
  pub open_entry : IsAlready log marked names i → ⊥
  pub not_dropped : IsDroppedEntry log i → ⊥
