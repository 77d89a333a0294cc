-- What a client compares of the parts that a replica has, before it reads them.
-- No public source: this program's own.
use Rattle.std.specs.Prelude.{◌≡◌, ◌⊎◌, ℕ, Bool, List}
use Rattle.rmt_names.specs.Names.{Name}
use Rattle.rmt_entries.specs.declared.entry.Entry.{Entry}
use Rattle.rmt_model.specs.Words.{Each}
use Rattle.rmt_model.specs.Live.{Dropped}
use Rattle.rmt_model.specs.Fair.{CoveredBy, MadeAtMark, DroppedAtMark}

-- none of these names is taken away by a drop that is known, and each result of a known place is covered by one of them, or dropped
pub record IsChecked (log : List Entry) (known : ℕ → Bool) (names : List Name) : Type 0 where
  pub kept : Each (λ a. DroppedAtMark log known a → ⊥) names
  pub answered : (a : Name) → MadeAtMark log known a → CoveredBy names a ⊎ Dropped log a
