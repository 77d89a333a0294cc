-- Background work: what RUN does to a table.
-- ClickHouse documentation, MergeTree, "Data storage": parts are merged in the background; ALTER, "Mutations": parts are mutated
-- in the background.
use Rattle.std.specs.Prelude.{◌≡◌, ◌≤◌, ℕ, Bool, true, List, [], ◌∷◌, ◌++◌, length}
use Rattle.std.specs.declared.option.Option.TheVariants.{None}
use Rattle.rmt_entries.specs.declared.entry.Entry.{Entry}
use Rattle.rmt_entries.specs.declared.entry.Entry.TheVariants.{Get, Merge, Mutate, Mutation, DropRange}
use Rattle.rmt_model.specs.Words.{Each}
use Rattle.rmt_model.specs.Lawful.{Lawful}
use Rattle.rmt_model.specs.Quorum.{Quorum, quorum_after_note}
use Rattle.rmt_model.specs.EntryLimits.{worker_limit}
use Rattle.rmt_statement_model.specs.TableStates.{TableState}

-- the entry is one of background work: it merges or mutates parts
abbrev pub IsOfWorker : Entry → Type 0
IsOfWorker (Merge name sources count) = Unit {0}
IsOfWorker (Mutate old name upto count mcount) = Unit {0}
IsOfWorker (Get p n digest source need) = ⊥
IsOfWorker (Mutation id numbers command) = ⊥
IsOfWorker (DropRange p n) = ⊥

-- each of the entries, the newest first, was within the limit of worker entries as it entered the log
abbrev pub HadRoom : List Entry → List Entry → Type 0
HadRoom [] log = Unit {0}
HadRoom (e ∷ gained) log = (worker_limit (gained ++ log) ≡ None) × HadRoom gained log

-- the quorum after notes of these replicas, the last one first
abbrev pub quorum_after_notes : List ℕ → Quorum → Quorum
quorum_after_notes [] q = q
quorum_after_notes (r ∷ noted) q = quorum_after_note r (quorum_after_notes noted q)

-- in so many turns the log gains such entries alone, at most as many as turns and within the limit, and is lawful still; replicas
-- that are up are noted for the part that waits for its quorum; nothing else changes
pub record Works (up : ℕ → Bool) (turns : ℕ) (t u : TableState) : Type 0 where
  pub gained : List Entry
  pub workers : Each IsOfWorker gained
  pub within : length gained ≤ turns
  pub room : HadRoom gained t.log
  pub lawful : Lawful t.schema (gained ++ t.log)
  pub noted : List ℕ
  pub live : Each (λ r. up r ≡ true) noted
  pub change : u ≡ record t { log = gained ++ t.log; quorum = quorum_after_notes noted t.quorum }
