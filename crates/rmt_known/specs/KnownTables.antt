-- What one client knows of one table, as it is kept: its copy of the log, and marks for the places that are known at each replica.
-- No public source: this program's own.
use Rattle.std.specs.Prelude.{◌≡◌, ◌<◌, ◌≤◌, ℕ, zero, suc, ◌||◌, ◌&&◌, nat_eq, nat_lt, Bool, true, false, List, [], length, replicate, slice_get, slice_index_or}
use Rattle.std.specs.declared.option.Option.{Option}
use Rattle.std.specs.declared.option.Option.TheVariants.{Some, None}
use Rattle.rmt_values.specs.Rows.{Shape}
use Rattle.rmt_names.specs.Names.{Name, Covers, rank}
use Rattle.rmt_entries.specs.declared.entry.Entry.{Entry}
use Rattle.rmt_model.specs.Lawful.{IsPrefix}
use Rattle.rmt_model.specs.Quorum.{Quorum}
use Rattle.rmt_history.specs.Copies.{History}
use Rattle.rmt_queue.specs.Marks.{done_at}
use Rattle.rmt_table_model.specs.Held.{Held}
use Rattle.rmt_statement_model.specs.TableStates.{TableState}
use Rattle.rmt_clients.specs.Clients.{Client, IsWaiting, MayBeNoted, known_table}

-- what is kept of a table: its schema, the copy of its log with the names of its cells, the next numbers, the quorum, and for each
-- replica, the first one first, whether it may fetch, and the marks of the places that are known there
pub record Known : Type 0 where
  pub schema : Shape
  pub log : List Entry
  pub cells : List ℕ
  pub next : List (Option ℕ × ℕ)
  pub quorum : Quorum
  pub fetching : List Bool
  pub marks : List (List Bool)

-- its copy of the log
abbrev pub copy_in : Known → History
copy_in k = record { schema = k.schema; log = k.log; cells = k.cells }

-- whether the replica of a number may fetch; one that isn't there may
abbrev pub fetching_at : List Bool → ℕ → Bool
fetching_at fetching zero = true
fetching_at fetching (suc n) = slice_index_or fetching n true

-- the marks of the replica of a number; one that isn't there has none
abbrev pub marks_at : List (List Bool) → ℕ → List Bool
marks_at marks zero = []
marks_at marks (suc n) = slice_index_or marks n []

-- what a client knows so of the table
abbrev pub client_of : Known → Client
client_of k = record { schema = k.schema; log = k.log; next = k.next; quorum = k.quorum; fetching = fetching_at k.fetching; known = λ r i. done_at (marks_at k.marks r) i }

-- the table as it is known so
abbrev pub known_state : Known → TableState
known_state k = known_table (client_of k)

-- a table of which nothing was seen yet, with so many replicas
abbrev pub new_known : Shape → ℕ → Known
new_known schema n = record { schema = schema; log = []; cells = []; next = []; quorum = record { pending = None; last = None }; fetching = replicate n true; marks = replicate n [] }

-- the replica of this number is one of the table's
pub record IsReplicaIn (k : Known) (r : ℕ) : Type 0 where
  pub first : 1 ≤ r
  pub last : r ≤ length k.fetching

-- the place of the log is known at one of these replicas, the first one first
pub record IsKnownAtOne (p : Client) (replicas : List Bool) (i : ℕ) : Type 0 where
  pub replica : ℕ
  pub among : slice_index_or replicas replica false ≡ true
  pub known : p.known (suc replica) i ≡ true

-- the table that is found goes on from what is known: its log from the copy, the next numbers are as the client's own calls left
-- them, and the quorum may have come of notes
pub record GoesOnFromKnown (k : Known) (h : Held) : Type 0 where
  pub prefix : IsPrefix k.log h.log
  pub next : h.next ≡ k.next
  pub noted : MayBeNoted k.quorum h.quorum

-- nothing of the copy of the log changes, and no replica comes or goes
pub record KeepsCopy (old new : Known) : Type 0 where
  pub copy : copy_in new ≡ copy_in old
  pub fetching : length new.fetching ≡ length old.fetching
  pub marks : length new.marks ≡ length old.marks

-- the numbers and the quorum are those of the table, and the log its whole log; all else but the cells is as before
abbrev pub seen_of : Held → List ℕ → Known → Known
seen_of h cells old = record old { log = h.log; cells = cells; next = h.next; quorum = h.quorum }

-- the copy of the log may be longer; nothing else changes
abbrev pub with_copy : List Entry → List ℕ → Known → Known
with_copy log cells old = record old { log = log; cells = cells }

-- ---- what only private clauses cite

-- there are marks for each replica, and a part that waits for its quorum was noted by too few
pub record IsKnown (fetching : List Bool) (marks : List (List Bool)) (quorum : Quorum) : Type 0 where
  pub replicas : length fetching ≡ length marks
  pub waiting : IsWaiting quorum.pending

-- the places that were marked are, and those of a test, and no others
abbrev pub GainsMarks : List Bool → (ℕ → Bool) → List Bool → Type 0
GainsMarks old test new = (i : ℕ) → done_at new i ≡ (test i || done_at old i)

-- the name ends before another one: in an earlier partition, or at a lower number of the same one
abbrev pub ends_before : Name → Name → Bool
ends_before a b = nat_lt (rank a.partition) (rank b.partition) || (nat_eq (rank a.partition) (rank b.partition) && nat_lt a.max b.max)

-- no name from one place up to another covers this one
abbrev pub NoneCovers : Name → List Name → ℕ → ℕ → Type 0
NoneCovers a names from to = (i : ℕ) → from ≤ i → i < to → (x : Name) → slice_get names i ≡ Some x → Covers x a → ⊥
