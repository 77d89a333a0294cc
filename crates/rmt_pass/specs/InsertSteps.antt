-- A client's INSERT of one block, in two steps: the block takes a number under one lock, and goes in under a later one.
-- ClickHouse documentation, Data Replication: a block takes a number under a lock, and its entry is written later. What a client
-- knows in between is this program's own.
use Rattle.std.specs.Prelude.{◌≡◌, ℕ, ◌+◌, Bool, true, List, length, Result, Ok, Err}
use Rattle.std.specs.declared.option.Option.TheVariants.{None}
use Rattle.rmt_model.specs.Words.{Has}
use Rattle.rmt_model.specs.BlockNumbers.{next_number, with_next}
use Rattle.rmt_events.specs.Views.{Block}
use Rattle.rmt_events.specs.TableCalls.{IsLocked}
use Rattle.rmt_table_model.specs.Held.{Held}
use Rattle.rmt_shared.specs.ClientCalls.{HasTable}
use Rattle.rmt_table.specs.TableTrees.{table_at}
use Rattle.std.specs.declared.alloc.AllocError.{AllocError}
use Rattle.rmt_table.specs.declared.commit_error.CommitError.{CommitError}
use Rattle.rmt_table.specs.declared.commit_error.CommitError.TheVariants as commits
use Rattle.rmt_table.specs.declared.lock.Lock.{Lock}
use Rattle.rmt_table.specs.declared.allocate_error.AllocateError.{AllocateError}
use Rattle.rmt_table.specs.declared.allocate_error.AllocateError.TheVariants as allocate
use Rattle.rmt_block.specs.declared.block_id.BlockId.{BlockId}
use Rattle.rmt_reply.specs.declared.piece.Piece.TheVariants as pieces
use Rattle.rmt_reply.specs.declared.refusal.Refusal.TheVariants.{LimitReached, TooFewLive, QuorumPending}
use Rattle.rmt_statement_model.specs.QuorumCopies.{count_live}
use Rattle.rmt_statement_model.specs.Inserts.{Asked, Repeats, Refuses, LacksRoom, with_block}
use Rattle.rmt_clients.specs.Clients.{Client, known_table, KnowsTable, AreClear, StepsTo}
use Rattle.rmt_clients.specs.ClientBlocks.{TakesNumber, MeetsLimit}
use Rattle.rmt_pass.specs.Passes.{PassView, TakesStep, KeepsPass, client_at, up_in}
use Rattle.rmt_pass.specs.declared.numbered.Numbered.{Numbered}
use Rattle.rmt_pass.specs.declared.numbered.Numbered.TheVariants.{Taken, Duplicate, Refused}
use Rattle.rmt_pass.specs.declared.committed.Committed.{Committed}
use Rattle.rmt_pass.specs.declared.committed.Committed.TheVariants.{Entry, Full, LockGone}

-- just the replicas that are up have a session in the table
pub record AreOpen (up : ℕ → Bool) (table : Held) : Type 0 where
  pub opened : (r : ℕ) → up r ≡ true → Has (table_at table).sessions r
  pub count : length (table_at table).sessions ≡ count_live up

-- the id is the block's
pub record IsIdOf (b : Block) (id : BlockId) : Type 0 where
  pub partition : id.partition ≡ b.partition
  pub digest : id.digest ≡ b.digest

-- the client once it took the next number of a block's partition
abbrev pub numbered : Client → Block → Client
numbered p b = record p { next = with_next p.next b.partition (next_number p.next b.partition + 1) }

-- the lock holds the number that a block got, for which the table was as this client says; all that the client did since is to take
-- that number
pub record HoldsNumber (up : ℕ → Bool) (a : Asked) (b : Block) (lock : Lock) (before now : Client) : Type 0 where
  pub takes : TakesNumber up before a b
  pub number : lock.number ≡ next_number before.next b.partition
  pub writer : lock.replica ≡ a.writer
  pub id : IsIdOf b lock.id
  pub is : now ≡ numbered before b

-- the number that a block got is held by its lock in the table at a place
abbrev pub HoldsLock : Numbered → List Held → ℕ → Type 0
HoldsLock (Taken lock) tables k = HasTable tables k (λ t. IsLocked (table_at t).locks lock.id.partition lock.number)
HoldsLock (Duplicate part) tables k = Unit {0}
HoldsLock (Refused why) tables k = Unit {0}

-- where the answer says that the lock of a block was gone, no lock held its number in the table at a place
abbrev pub WasGone : Committed → List Held → ℕ → Lock → Type 0
WasGone (Entry place) tables k lock = Unit {0}
WasGone (Full limit value) tables k lock = Unit {0}
WasGone LockGone tables k lock = HasTable tables k (λ t. IsLocked (table_at t).locks lock.id.partition lock.number → ⊥)

-- what became of a block that asks for a number: it got one, its id is kept, or it was refused
abbrev pub Numbers : (ℕ → Block → Type 0) → PassView → ℕ → Asked → Block → Numbered → PassView → Type 0
Numbers Offered old k a b (Taken lock) new = HoldsNumber (up_in old.up) a b lock (client_at old k) (client_at new k) × KeepsPass old k new
Numbers Offered old k a b (Duplicate part) new = TakesStep Offered old k (λ t u. Repeats (up_in old.up) t a b (pieces.Duplicate part) u) new
Numbers Offered old k a b (Refused why) new = TakesStep Offered old k (λ t u. Refuses true (up_in old.up) t a b why u) new

-- the block is in at this place, where there was room for it
pub record GoesIn (Offered : Block → Type 0) (a : Asked) (b : Block) (place : ℕ) (before now : Client) : Type 0 where
  pub offered : Offered b
  pub at : place ≡ length before.log
  pub room : AreClear Offered → MeetsLimit Offered before b None
  pub after : KnowsTable now (with_block (known_table before) a b)

-- what became of a block with a number, for which the table was as this client says: it is in, there was no room for it, or its lock
-- was gone, and nothing changed
abbrev pub CommitsTo : (Block → Type 0) → (ℕ → Bool) → Asked → Block → Client → Client → Committed → Client → Type 0
CommitsTo Offered up a b before old (Entry place) new = GoesIn Offered a b place before new
CommitsTo Offered up a b before old (Full limit value) new = StepsTo Offered before (λ t u. LacksRoom up t a b (LimitReached limit value) u) new
CommitsTo Offered up a b before old LockGone new = new ≡ old

-- ---- what only private functions cite

-- what becomes of a block that got no number
abbrev pub IsUnnumbered : AllocateError → Result Numbered AllocError → Type 0
IsUnnumbered allocate.NoSession r = ⊥
IsUnnumbered (allocate.TooFewLive live need) r = r ≡ Ok (Refused (TooFewLive live need))
IsUnnumbered (allocate.QuorumPending part) r = r ≡ Ok (Refused (QuorumPending part))
IsUnnumbered (allocate.Duplicate part) r = r ≡ Ok (Duplicate part)
IsUnnumbered (allocate.LimitReached limit value) r = r ≡ Ok (Refused (LimitReached limit value))
IsUnnumbered allocate.Memory r = r ≡ Err record {}

-- an answer on a block that was new when it took its number
abbrev pub IsLate : CommitError → Type 0
IsLate (commits.LockGone n) = Unit {0}
IsLate (commits.TooFewLive live needed) = ⊥
IsLate (commits.QuorumPending part) = ⊥
IsLate (commits.Duplicate part) = ⊥
IsLate (commits.LimitReached limit value) = Unit {0}
IsLate commits.Memory = Unit {0}

-- what becomes of a block with a number that isn't accepted
abbrev pub IsUncommitted : CommitError → Result Committed AllocError → Type 0
IsUncommitted (commits.LockGone n) r = r ≡ Ok LockGone
IsUncommitted (commits.TooFewLive live needed) r = ⊥
IsUncommitted (commits.QuorumPending part) r = ⊥
IsUncommitted (commits.Duplicate part) r = ⊥
IsUncommitted (commits.LimitReached limit value) r = r ≡ Ok (Full limit value)
IsUncommitted commits.Memory r = r ≡ Err record {}
