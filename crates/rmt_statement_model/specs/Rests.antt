-- What may happen to a table while a client does nothing there: without workers nothing, with workers background work.
-- ClickHouse documentation, MergeTree, "Data storage": parts are merged in the background; ALTER, "Mutations": parts are mutated
-- in the background.
use Rattle.std.specs.Prelude.{◌≡◌, ◌⊎◌, ℕ, Bool, true}
use Rattle.rmt_entries.specs.declared.entry.Entry.{Entry}
use Rattle.rmt_statement_model.specs.TableStates.{TableState}
use Rattle.rmt_statement_model.specs.BackgroundWork.{IsOfWorker, Works}

-- workers run, and do background work of any number of turns, in which any replica may be noted
pub record Idles (workers : Bool) (t u : TableState) : Type 0 where
  pub run : workers ≡ true
  pub turns : ℕ
  pub works : Works (λ r. true) turns t u

-- the table rests: nothing changes but, where workers run, by their work
abbrev pub Rests : Bool → TableState → TableState → Type 0
Rests workers t u = (u ≡ t) ⊎ Idles workers t u

-- an entry that may come between those of a statement: one of background work, where workers run
abbrev pub MayCome : Bool → Entry → Type 0
MayCome workers e = (workers ≡ true) × IsOfWorker e

-- so many turns of background work, where these replicas are up; where workers run, their work can't be told from it
abbrev pub Runs : Bool → (ℕ → Bool) → ℕ → TableState → TableState → Type 0
Runs workers up turns t u = Works up turns t u ⊎ Idles workers t u
