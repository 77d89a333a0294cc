-- What a client knows of a table that workers change beside it, and the states of the table that fit it.
-- No public source: this program's own.
use Rattle.std.specs.Prelude.{◌≡◌, ℕ, ◌<◌, Bool, true, List, [], ◌∷◌, ◌++◌, ◌≤◌, length}
use Rattle.std.specs.declared.option.Option.{Option}
use Rattle.std.specs.declared.option.Option.TheVariants.{Some, None}
use Rattle.rmt_names.specs.Names.{Name}
use Rattle.rmt_values.specs.Rows.{Shape}
use Rattle.rmt_entries.specs.declared.entry.Entry.{Entry}
use Rattle.rmt_entries.specs.declared.entry.Entry.TheVariants.{Get, Merge, Mutate, Mutation, DropRange}
use Rattle.rmt_model.specs.Words.{Has, Each, Pairwise}
use Rattle.rmt_model.specs.Quorum.{Pending, Quorum}
use Rattle.rmt_model.specs.Lawful.{Lawful}
use Rattle.rmt_model.specs.EntryLimits.{is_client, worker_count}
use Rattle.rmt_events.specs.Views.{Block}
use Rattle.rmt_events.specs.Clusters.{Accepted}
use Rattle.rmt_statement_model.specs.TableStates.{TableState}
use Rattle.rmt_statement_model.specs.BackgroundWork.{IsOfWorker, quorum_after_notes}
use Rattle.rmt_statement_model.specs.Rests.{Rests}

-- what a client knows of a table: its schema, its log as far as the client has seen it, the next numbers as the client's own calls
-- left them, the quorum as last seen, and for each replica, by its number, whether it may fetch, and the places that are known there
pub record Client : Type 0 where
  pub schema : Shape
  pub log : List Entry
  pub next : List (Option ℕ × ℕ)
  pub quorum : Quorum
  pub fetching : ℕ → Bool
  pub known : ℕ → ℕ → Bool

-- the table as the client knows it, with no block: what it doesn't know are the accepted blocks
abbrev pub known_table : Client → TableState
known_table p = record { schema = p.schema; log = p.log; blocks = []; next = p.next; quorum = p.quorum; fetching = p.fetching; known = p.known }

-- the client knows all of this state but its blocks
pub record KnowsTable (p : Client) (t : TableState) : Type 0 where
  pub schema : p.schema ≡ t.schema
  pub log : p.log ≡ t.log
  pub next : p.next ≡ t.next
  pub quorum : p.quorum ≡ t.quorum
  pub fetching : (r : ℕ) → p.fetching r ≡ t.fetching r
  pub known : (r i : ℕ) → p.known r i ≡ t.known r i

-- the accepted block of a Get is an offered one of its id
pub record IsAcceptedAs (Offered : Block → Type 0) (p : Option ℕ) (n : ℕ) (digest : List ℕ) (b : Accepted) : Type 0 where
  pub block : Block
  pub offered : Offered block
  pub partition : block.partition ≡ p
  pub same_id : block.digest ≡ digest
  pub accepted : b ≡ record { partition = p; number = n; rows = block.rows }

-- the accepted blocks are those of the Gets of the log, each an offered one of its Get's id
abbrev pub AreAccepted : (Block → Type 0) → List Entry → List Accepted → Type 0
AreAccepted Offered [] [] = Unit {0}
AreAccepted Offered (Get p n digest source need ∷ log) (b ∷ blocks) = IsAcceptedAs Offered p n digest b × AreAccepted Offered log blocks
AreAccepted Offered (Get p n digest source need ∷ log) [] = ⊥
AreAccepted Offered (Merge name sources count ∷ log) blocks = AreAccepted Offered log blocks
AreAccepted Offered (Mutate old name upto count mcount ∷ log) blocks = AreAccepted Offered log blocks
AreAccepted Offered (Mutation id numbers command ∷ log) blocks = AreAccepted Offered log blocks
AreAccepted Offered (DropRange p n ∷ log) blocks = AreAccepted Offered log blocks
AreAccepted Offered [] (b ∷ blocks) = ⊥

-- no two offered blocks of one id differ
abbrev pub AreClear : (Block → Type 0) → Type 0
AreClear Offered = (b c : Block) → Offered b → Offered c → b.partition ≡ c.partition → b.digest ≡ c.digest → b ≡ c

-- the table may be in this state, for all that the client knows
pub record Fits (Offered : Block → Type 0) (p : Client) (t : TableState) : Type 0 where
  pub knows : KnowsTable p t
  pub blocks : AreAccepted Offered t.log t.blocks

-- ---- rests

-- the client has seen what workers appended, and which replicas were noted for the part that waits
abbrev pub seeing : List Entry → List ℕ → Client → Client
seeing gained noted p = record p { log = gained ++ p.log; quorum = quorum_after_notes noted p.quorum }

-- the table once workers have appended these entries, and these replicas were noted
abbrev pub after_work : List Entry → List ℕ → TableState → TableState
after_work gained noted t = record t { log = gained ++ t.log; quorum = quorum_after_notes noted t.quorum }

-- what the client finds that its log has gained: entries of workers, within their limit
pub record SeesHere (p : Client) (gained : List Entry) : Type 0 where
  pub workers : Each IsOfWorker gained
  pub few : worker_count (gained ++ p.log) ≤ 32768
  pub lawful : Lawful p.schema (gained ++ p.log)

-- each entry of a client is marked; entries of background work may be unmarked
abbrev pub ClientsMarked : List Entry → (ℕ → Bool) → Type 0
ClientsMarked [] marked = Unit {0}
ClientsMarked (e ∷ log) marked = (is_client e ≡ true → marked (length log) ≡ true) × ClientsMarked log marked

-- ---- what is compared of a quorum

-- of a part that waits: too few replicas have noted it, and they rise
abbrev pub IsWaiting : Option Pending → Type 0
IsWaiting None = Unit {0}
IsWaiting (Some q) = (length q.noted < q.need) × Pairwise ◌<◌ q.noted

-- the part that waited waits still, and who had noted it has; or it doesn't wait any more, and is the last one whose quorum was met.
-- Where none waited, nothing changed
abbrev pub GoesOnFrom : Option Pending → Option Name → Option Pending → Option Name → Type 0
GoesOnFrom None last None later = later ≡ last
GoesOnFrom None last (Some v) later = ⊥
GoesOnFrom (Some w) last None later = later ≡ Some w.part
GoesOnFrom (Some w) last (Some v) later = (v.part ≡ w.part) × (v.need ≡ w.need) × (later ≡ last) × Each (Has v.noted) w.noted

-- the quorum that is found may have come of notes
pub record MayBeNoted (old found : Quorum) : Type 0 where
  pub waits : IsWaiting old.pending
  pub found_waits : IsWaiting found.pending
  pub goes_on : GoesOnFrom old.pending old.last found.pending found.last

-- ---- what a step comes to

-- the table comes to a state of which this holds, and which fits what the client knows then
pub record ChangesInto (Offered : Block → Type 0) (q : Client) (Change : TableState → Type 0) : Type 0 where
  pub after : TableState
  pub change : Change after
  pub fits : Fits Offered q after

-- the table rests, and then changes so; what it comes to fits what the client knows then
pub record RestsAnd (Offered : Block → Type 0) (q : Client) (Change : TableState → TableState → Type 0) (t : TableState) : Type 0 where
  pub at : TableState
  pub rests : Rests true t at
  pub comes : ChangesInto Offered q (Change at)

-- where no two offered blocks of one id differ: whatever state fits what the client knew, the table rests and then changes so, and
-- comes to a state that fits what the client knows now
abbrev pub StepsTo : (Block → Type 0) → Client → (TableState → TableState → Type 0) → Client → Type 0
StepsTo Offered p Change q = AreClear Offered → (t : TableState) → Fits Offered p t → RestsAnd Offered q Change t
