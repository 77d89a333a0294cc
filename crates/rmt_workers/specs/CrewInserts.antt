-- A client's INSERT of one block among workers, step by step.
-- ClickHouse documentation, Data Replication: a block takes a number, and its entry is written later; settings, `insert_quorum`. What
-- the client knows in between is this program's own.
use Rattle.std.specs.Prelude.{◌≡◌, ◌⊎◌, ◌<◌, ◌≤◌, ℕ, Bool, true, false, List, length, Result, Ok, Err}
use Rattle.std.specs.declared.option.Option.{Option}
use Rattle.std.specs.declared.option.Option.TheVariants.{Some, None}
use Rattle.rmt_entries.specs.declared.entry.Entry.{Entry}
use Rattle.rmt_model.specs.Quorum.{Pending}
use Rattle.rmt_events.specs.Views.{Block}
use Rattle.rmt_table_model.specs.Held.{Held}
use Rattle.rmt_reply.specs.declared.piece.Piece.{Piece}
use Rattle.rmt_reply.specs.declared.refusal.Refusal.{Refusal}
use Rattle.rmt_reply.specs.declared.refusal.Refusal.TheVariants.{LimitReached}
use Rattle.rmt_statement_model.specs.TableStates.{TableState}
use Rattle.rmt_statement_model.specs.Inserts.{Asked, Inserts, Refuses, LacksRoom}
use Rattle.rmt_statement_model.specs.QuorumCopies.{CopiesAll}
use Rattle.rmt_clients.specs.Clients.{Client, AreClear, Fits, ChangesInto, StepsTo, SeesHere, seeing}
use Rattle.rmt_clients.specs.ClientBlocks.{TakesNumber}
use Rattle.rmt_shared.specs.ClientCalls.{HasTable}
use Rattle.rmt_pass.specs.Passes.{PassView, IsCurrent, KeepsPass, client_at, up_in}
use Rattle.rmt_pass.specs.InsertSteps.{AreOpen, GoesIn, Numbers}
use Rattle.rmt_pass.specs.declared.numbered.Numbered.{Numbered}
use Rattle.rmt_pass.specs.declared.committed.Committed.{Committed}
use Rattle.rmt_pass.specs.declared.committed.Committed.TheVariants.{Entry as GotEntry, Full, LockGone}
use Rattle.rmt_workers.specs.Crews.{Saw}

-- what an INSERT of one block comes to: a piece of its reply, or its refusal
abbrev pub InsertsOr : (ℕ → Bool) → Asked → Block → Result Piece Refusal → TableState → TableState → Type 0
InsertsOr up a b (Ok piece) t u = Inserts true up t a b piece u
InsertsOr up a b (Err refusal) t u = Refuses true up t a b refusal u

-- ---- what only private functions cite

-- the client has seen the table at a place, and just the replicas that are up have a session there
pub record SeesOpen (old : PassView) (k : ℕ) (tables : List Held) (new : PassView) : Type 0 where
  pub saw : Saw old k new
  pub current : IsCurrent new k tables
  pub has_open : HasTable tables k (AreOpen (up_in new.up))

-- the client sees the table at a place, and a block asks for a number there
pub record NumbersLater (Offered : ℕ → Block → Type 0) (old : PassView) (k : ℕ) (a : Asked) (b : Block) (n : Numbered) (new : PassView) : Type 0 where
  pub mid : PassView
  pub saw : Saw old k mid
  pub numbers : Numbers Offered mid k a b n new
  pub goes : new.gave_up ≡ false

-- what the client knows once workers have done nothing, or something
abbrev pub Later : Client → Client → Type 0
Later before now = (now ≡ before) ⊎ ((gained : List Entry) × (noted : List ℕ) × SeesHere before gained × (now ≡ seeing gained noted before))

-- the block that took its number when the client knew this goes in later
pub record GoesInLater (Offered : Block → Type 0) (up : ℕ → Bool) (a : Asked) (b : Block) (place : ℕ) (before new : Client) : Type 0 where
  pub now : Client
  pub later : Later before now
  pub takes : TakesNumber up now a b
  pub goes_in : GoesIn Offered a b place now new

-- what became of it: it is in, or there was no room
abbrev pub CommitsLater : (Block → Type 0) → (ℕ → Bool) → Asked → Block → Client → Committed → Client → Type 0
CommitsLater Offered up a b before (GotEntry place) new = GoesInLater Offered up a b place before new
CommitsLater Offered up a b before (Full limit value) new = StepsTo Offered before (λ t u. LacksRoom up t a b (LimitReached limit value) u) new
CommitsLater Offered up a b before LockGone new = ⊥

-- the INSERT of a block that took its number when the client knew this
abbrev pub InsertsFrom : (Block → Type 0) → (ℕ → Bool) → Asked → Block → Client → Result Piece Refusal → Client → Type 0
InsertsFrom Offered up a b before done new = StepsTo Offered before (InsertsOr up a b done) new

-- where no two offered blocks of one id differ: whatever state fitted what the client knew changes so, into one that fits what it knows now
pub record TakesInto (Offered : ℕ → Block → Type 0) (old : PassView) (k : ℕ) (Change : TableState → TableState → Type 0) (new : PassView) : Type 0 where
  pub steps : AreClear (Offered k) → (t : TableState) → Fits (Offered k) (client_at old k) t → ChangesInto (Offered k) (client_at new k) (Change t)
  pub keeps : KeepsPass old k new
  pub goes : new.gave_up ≡ false

-- all copies were made that the block at a place asks for
abbrev pub CopiesBlock : (ℕ → Block → Type 0) → PassView → ℕ → ℕ → ℕ → PassView → Type 0
CopiesBlock Offered old k writer place new = TakesInto Offered old k (λ t u. CopiesAll true (up_in old.up) writer place t u) new

-- a part waits for its quorum still, and so many replicas have noted it
pub record IsWaitingBy (quorum : Option Pending) (have : ℕ) : Type 0 where
  pub waiting : Pending
  pub waits : quorum ≡ Some waiting
  pub count : have ≡ length waiting.noted

-- whether the quorum of the block at a place is met, once all copies were made that it asks for; fewer than 2 ask for no quorum
abbrev pub IsGathered : (ℕ → Block → Type 0) → PassView → ℕ → ℕ → ℕ → ℕ → Option ℕ → PassView → Type 0
IsGathered Offered old k writer place need None new =
    ((need < 2) × (new ≡ old)) ⊎ ((2 ≤ need) × CopiesBlock Offered old k writer place new × ((client_at new k).quorum.pending ≡ None))
IsGathered Offered old k writer place need (Some have) new =
    (2 ≤ need) × CopiesBlock Offered old k writer place new × IsWaitingBy (client_at new k).quorum.pending have
