-- Copies of a block that was inserted with a quorum: which replicas make them, in which order, and what they note.
-- ClickHouse documentation, settings, `insert_quorum`: an INSERT succeeds when so many replicas have its data. That the replicas are
-- asked one after the other, and that there are at most 8, are this program's own.
use Rattle.std.specs.Prelude.{◌≡◌, ◌⊎◌, ℕ, zero, suc, ◌<◌, ◌≤◌, ◌&&◌, not, Bool, true, false, nat_eq, List, [], ◌∷◌, length}
use Rattle.std.specs.List.{filter}
use Rattle.std.specs.declared.option.Option.{Option}
use Rattle.std.specs.declared.option.Option.TheVariants.{Some, None}
use Rattle.rmt_model.specs.Quorum.{Pending, quorum_after_note}
use Rattle.rmt_statement_model.specs.TableStates.{TableState, learned}
use Rattle.rmt_statement_model.specs.Rests.{Rests}

-- the numbers that replicas may have
abbrev pub replica_numbers : List ℕ
replica_numbers = 1 ∷ 2 ∷ 3 ∷ 4 ∷ 5 ∷ 6 ∷ 7 ∷ 8 ∷ []

-- how many replicas are up
abbrev pub count_live : (ℕ → Bool) → ℕ
count_live up = length (filter up replica_numbers)

-- a part waits for its quorum
abbrev pub is_waiting : Option Pending → Bool
is_waiting None = false
is_waiting (Some q) = true

-- a replica is asked for a copy of the writer's block: a part waits still, and it isn't the writer, is up and may fetch
abbrev pub is_asked : Option Pending → (ℕ → Bool) → (ℕ → Bool) → ℕ → ℕ → Bool
is_asked pending up fetching writer k = is_waiting pending && (not (nat_eq k writer) && (up k && fetching k))

-- the table, a replica having done the Get at a place, and noted for the part that waits
abbrev pub copied : ℕ → ℕ → TableState → TableState
copied place k t = record t { known = learned t.known k place; quorum = quorum_after_note k t.quorum }

-- the same where the replica is asked
abbrev pub copied_where : Bool → ℕ → ℕ → TableState → TableState
copied_where true place k t = copied place k t
copied_where false place k t = t

-- the table rests, and the writer is noted for the part that waits
pub record NotesWriter (workers : Bool) (writer : ℕ) (t u : TableState) : Type 0 where
  pub at : TableState
  pub rests : Rests workers t at
  pub change : u ≡ record at { quorum = quorum_after_note writer at.quorum }

-- the table rests, and the replica of a number makes its copy where it is asked then
pub record CopiesLater (workers : Bool) (up : ℕ → Bool) (writer place k : ℕ) (t u : TableState) : Type 0 where
  pub at : TableState
  pub rests : Rests workers t at
  pub change : u ≡ copied_where (is_asked at.quorum.pending up at.fetching writer k) place k at

-- the writer is noted, and then the replicas of the first so many numbers are asked, in order
abbrev pub CopiesTo : Bool → (ℕ → Bool) → ℕ → ℕ → ℕ → TableState → TableState → Type 0
CopiesTo workers up writer place zero t u = NotesWriter workers writer t u
CopiesTo workers up writer place (suc n) t u = (mid : TableState) × CopiesTo workers up writer place n t mid × CopiesLater workers up writer place (suc n) mid u

-- the same with all replicas, of which there are at most 8, and the table rests at the end
pub record CopiesAll (workers : Bool) (up : ℕ → Bool) (writer place : ℕ) (t u : TableState) : Type 0 where
  pub mid : TableState
  pub copies : CopiesTo workers up writer place 8 t mid
  pub rests : Rests workers mid u

-- the same where so many replicas are asked for; fewer than 2 ask for no quorum
abbrev pub Gathers : Bool → ℕ → (ℕ → Bool) → ℕ → ℕ → TableState → TableState → Type 0
Gathers workers need up writer place t u = ((need < 2) × (u ≡ t)) ⊎ ((2 ≤ need) × CopiesAll workers up writer place t u)
