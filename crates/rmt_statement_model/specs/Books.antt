-- Logs of all tables at once, as they go on from copies of them: how many entries of clients they have, and what they gain
-- where that count stays.
-- No public source: that a client's own entries are counted is this program's own.
use Rattle.std.specs.Prelude.{◌≡◌, ℕ, ◌+◌, List, [], ◌∷◌, ◌++◌}
use Rattle.rmt_entries.specs.declared.entry.Entry.{Entry}
use Rattle.rmt_model.specs.Words.{Each}
use Rattle.rmt_model.specs.Lawful.{IsPrefix}
use Rattle.rmt_model.specs.EntryLimits.{client_count}
use Rattle.rmt_statement_model.specs.BackgroundWork.{IsOfWorker}

-- each copy is a prefix of its log
abbrev pub ArePrefixesOf : List (List Entry) → List (List Entry) → Type 0
ArePrefixesOf [] [] = Unit {0}
ArePrefixesOf (c ∷ copies) (l ∷ logs) = IsPrefix c l × ArePrefixesOf copies logs
ArePrefixesOf copies logs = ⊥

-- how many entries of clients all logs have
abbrev pub all_clients : List (List Entry) → ℕ
all_clients [] = 0
all_clients (l ∷ logs) = client_count l + all_clients logs

-- the log goes on from the copy by entries of background work alone
pub record GainsWork (copy log : List Entry) : Type 0 where
  pub gained : List Entry
  pub is : log ≡ gained ++ copy
  pub workers : Each IsOfWorker gained

-- each log does
abbrev pub GainWork : List (List Entry) → List (List Entry) → Type 0
GainWork [] [] = Unit {0}
GainWork (c ∷ copies) (l ∷ logs) = GainsWork c l × GainWork copies logs
GainWork copies logs = ⊥
