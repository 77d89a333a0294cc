-- What refuses a block, by its lock. Why a call is refused is `TableRefusals`', at the cause of its error.
-- ClickHouse documentation, Data Replication: insert blocks, their numbers and checksums. The errors are this program's own.
use Rattle.std.specs.Prelude.{◌≡◌, ℕ}
use Rattle.std.specs.declared.option.Option.TheVariants.{None}
use Rattle.rmt_model.specs.EntryLimits.{commit_limit}
use Rattle.rmt_events.specs.Views.{Table}
use Rattle.rmt_events.specs.TableCalls.{IsLocked}
use Rattle.rmt_events.specs.TableRefusals.{HasQuorum, IsUnkept, LacksLock, NotAccepted}
use Rattle.rmt_events.specs.declared.step_refused.StepRefused.{StepRefused}
use Rattle.rmt_events.specs.declared.step_refused.StepRefused.TheVariants as rf
use Rattle.rmt_inserts.specs.declared.number_error.NumberError.{NumberError}
use Rattle.rmt_inserts.specs.declared.number_error.NumberError.TheVariants as number
use Rattle.rmt_table.specs.declared.lock.Lock.{Lock}
use Rattle.rmt_table.specs.declared.allocate_error.AllocateError.{AllocateError}
use Rattle.rmt_table.specs.declared.allocate_error.AllocateError.TheVariants as allocate
use Rattle.rmt_table.specs.declared.commit_error.CommitError.{CommitError}
use Rattle.rmt_table.specs.declared.commit_error.CommitError.TheVariants as commit
use Rattle.rmt_table.specs.declared.quorum_error.QuorumError.{QuorumError}
use Rattle.rmt_table.specs.declared.quorum_error.QuorumError.TheVariants as quorum

-- the answer on a quorum, as that on a number
abbrev pub allocate_of : QuorumError → AllocateError
allocate_of (quorum.TooFewLive live needed) = allocate.TooFewLive live needed
allocate_of (quorum.QuorumPending a) = allocate.QuorumPending a

-- the answer on a number, as that on a block
abbrev pub IsSameLimit : NumberError → AllocateError → Type 0
IsSameLimit (number.LimitReached limit value) e = e ≡ allocate.LimitReached limit value
IsSameLimit number.Memory e = e ≡ allocate.Memory

-- the answer on a quorum, as that on a block
abbrev pub commit_of : QuorumError → CommitError
commit_of (quorum.TooFewLive live needed) = commit.TooFewLive live needed
commit_of (quorum.QuorumPending a) = commit.QuorumPending a

-- why the block of a lock isn't accepted
abbrev pub NoCommit : Table → Lock → ℕ → ℕ → StepRefused → Type 0
NoCommit t k need values (rf.LockGone n) = LacksLock t k.id.partition k.number n
NoCommit t k need values why = IsLocked t.locks k.id.partition k.number × NotAccepted t k.id.partition k.id.digest need values why

-- there are enough live replicas for the block, and no part waits where it asks for a quorum; its id isn't kept, and no limit
-- would be passed
pub record IsAcceptable (t : Table) (k : Lock) (need values : ℕ) : Type 0 where
  pub quorum : HasQuorum t need
  pub unkept : IsUnkept t k.id.partition k.id.digest
  pub within : commit_limit t.log t.values values ≡ None

-- the lock of the block goes with this answer
abbrev pub TakesLock : CommitError → Type 0
TakesLock (commit.LockGone n) = ⊥
TakesLock (commit.TooFewLive live needed) = Unit {0}
TakesLock (commit.QuorumPending a) = Unit {0}
TakesLock (commit.Duplicate a) = Unit {0}
TakesLock (commit.LimitReached limit value) = Unit {0}
TakesLock commit.Memory = ⊥
