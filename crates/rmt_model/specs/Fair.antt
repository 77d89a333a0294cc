-- Names that answer for a set of places of a log, and standing replicas.
use Rattle.std.specs.Prelude.{◌≡◌, ◌⊎◌, ◌<◌, ℕ, Bool, true, List, [], ◌∷◌, length}
use Rattle.std.specs.declared.option.Option.TheVariants.{Some}
use Rattle.rmt_values.specs.Rows.{Shape}
use Rattle.rmt_names.specs.Names.{Name, Covers}
use Rattle.rmt_entries.specs.Entries.{result_name}
use Rattle.rmt_entries.specs.declared.entry.Entry.{Entry}
use Rattle.rmt_model.specs.Words.{Has, Each, Pairwise}
use Rattle.rmt_model.specs.Live.{Before, made, TakesAway, Dropped}

-- one of the names covers a
pub record CoveredBy (names : List Name) (a : Name) : Type 0 where
  pub name : Name
  pub is_in : Has names name
  pub covers : Covers name a

-- the entry at a marked place makes a
abbrev pub MadeAtMark : List Entry → (ℕ → Bool) → Name → Type 0
MadeAtMark [] marked a = ⊥
MadeAtMark (e ∷ log) marked a = ((marked (length log) ≡ true) × (result_name e ≡ Some a)) ⊎ MadeAtMark log marked a

-- a drop at a marked place that stands after the making of a takes it away
abbrev pub DroppedAtMark : List Entry → (ℕ → Bool) → Name → Type 0
DroppedAtMark [] marked a = ⊥
DroppedAtMark (e ∷ log) marked a =
    DroppedAtMark log marked a ⊎ ((marked (length log) ≡ true) × Has (made log) a × TakesAway e a)

-- the names are fair for the marked places of a log: made in it and apart, none taken away by a
-- marked drop, and each result of a marked place is covered or dropped
pub record AreFair (log : List Entry) (marked : ℕ → Bool) (names : List Name) : Type 0 where
  pub apart : Pairwise Before names
  pub made_here : Each (λ a. Has (made log) a) names
  pub kept : Each (λ a. DroppedAtMark log marked a → ⊥) names
  pub answered : (a : Name) → MadeAtMark log marked a → CoveredBy names a ⊎ Dropped log a

-- every place of the log is marked
abbrev pub AllMarked : List Entry → (ℕ → Bool) → Type 0
AllMarked log marked = (i : ℕ) → i < length log → marked i ≡ true
