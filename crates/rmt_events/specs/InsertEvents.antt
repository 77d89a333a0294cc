-- What the events of an INSERT do: Allocate, Again, Stage, Commit and Abandon, and why they are refused.
-- ClickHouse documentation, Data Replication: insert blocks, their numbers and checksums, insert_quorum. ZooKeeper
-- programmer's guide, "Ephemeral Nodes": a lock goes with its session. That an attempt goes on under another number is
-- this program's own.
use Rattle.std.specs.Prelude.{◌≡◌, ℕ, ◌+◌, ◌∷◌, length}
use Rattle.rmt_events.specs.Views.{Block, Replica, Table}
use Rattle.rmt_events.specs.TableCalls.{IsLocked, Allocates, Commits, Unlocks}
use Rattle.rmt_events.specs.TableRefusals.{HasQuorum, NoNumber, LacksLock, NotAccepted}
use Rattle.rmt_events.specs.ReplicaCalls.{IsStaged, Stages, Unstages}
use Rattle.rmt_events.specs.Clusters.{values_of, Attempt, Cluster, with_replica}
use Rattle.rmt_events.specs.ClusterChanges.{IsNumbered, IsAttempt, LacksAttempt, attempts_without, renumbered, AtReplica, IsDown}
use Rattle.rmt_events.specs.declared.reply.Reply.{Reply}
use Rattle.rmt_events.specs.declared.reply.Reply.TheVariants as rp
use Rattle.rmt_events.specs.declared.step_refused.StepRefused.{StepRefused}
use Rattle.rmt_events.specs.declared.step_refused.StepRefused.TheVariants as rf

-- ---- Allocate, Again

-- an attempt begins: its block gets a number
pub record BeginsAttempt (s : Cluster) (k : ℕ) (b : Block) (need : ℕ) (reply : Reply) (t : Cluster) : Type 0 where
  pub number : ℕ
  pub table : Table
  pub quorum : HasQuorum s.table need
  pub call : Allocates s.table k b.partition b.digest number table
  pub answer : reply ≡ rp.Attempt s.attempts_made number
  pub change : t ≡ record s { table = table; attempts_made = s.attempts_made + 1; attempts = record { id = s.attempts_made; replica = k; block = b; number = number; need = need } ∷ s.attempts }

-- an attempt whose lock is gone gets another number; what is staged under the old one stays
pub record RenewsAttempt (s : Cluster) (id : ℕ) (reply : Reply) (t : Cluster) : Type 0 where
  pub attempt : Attempt
  pub is : IsAttempt s id attempt
  pub gone : IsLocked s.table.locks attempt.block.partition attempt.number → ⊥
  pub number : ℕ
  pub table : Table
  pub quorum : HasQuorum s.table attempt.need
  pub call : Allocates s.table attempt.replica attempt.block.partition attempt.block.digest number table
  pub answer : reply ≡ rp.Attempt id number
  pub change : t ≡ record s { table = table; attempts = renumbered s.attempts id number }

-- why an attempt gets no other number
abbrev pub NoOther : Cluster → ℕ → StepRefused → Type 0
NoOther s id rf.NoAttempt = LacksAttempt s id
NoOther s id rf.LockHeld = (a : Attempt) × IsAttempt s id a × IsLocked s.table.locks a.block.partition a.number
NoOther s id why =
    (a : Attempt) × IsAttempt s id a × (IsLocked s.table.locks a.block.partition a.number → ⊥)
    × NoNumber s.table a.replica a.block.partition a.block.digest a.need why

-- ---- Stage

-- the block is staged at its replica
pub record StagesAttempt (s : Cluster) (id : ℕ) (reply : Reply) (t : Cluster) : Type 0 where
  pub attempt : Attempt
  pub is : IsAttempt s id attempt
  pub at : AtReplica s attempt.replica (λ x y. Stages x attempt.number attempt.block y) t
  pub answer : reply ≡ rp.Done

-- why a block isn't staged
abbrev pub NoStage : Cluster → ℕ → StepRefused → Type 0
NoStage s id rf.NoAttempt = LacksAttempt s id
NoStage s id rf.Down = (a : Attempt) × IsAttempt s id a × IsDown s a.replica
NoStage s id why = ⊥

-- ---- Commit, Abandon

-- the attempt's block is staged at its replica under the attempt's number
pub record HasStaged (s : Cluster) (a : Attempt) : Type 0 where
  pub replica : Replica
  pub at : IsNumbered s a.replica replica
  pub staged : IsStaged replica a.block.partition a.number a.block

-- the block is accepted, and the attempt ends
pub record AcceptsBlock (s : Cluster) (id : ℕ) (reply : Reply) (t : Cluster) : Type 0 where
  pub attempt : Attempt
  pub is : IsAttempt s id attempt
  pub replica : Replica
  pub at : IsNumbered s attempt.replica replica
  pub staged : IsStaged replica attempt.block.partition attempt.number attempt.block
  pub table : Table
  pub quorum : HasQuorum s.table attempt.need
  pub call : Commits s.table attempt.block.partition attempt.number attempt.block.digest attempt.replica attempt.need (values_of s.table.schema attempt.block.rows) table
  pub answer : reply ≡ rp.Entry (length s.table.log)
  pub change : t ≡ record s { table = table; attempts = attempts_without s.attempts id }

-- an attempt ends without a Get: its lock and its staged block go
pub record EndsAttempt (s : Cluster) (id : ℕ) (t : Cluster) : Type 0 where
  pub attempt : Attempt
  pub is : IsAttempt s id attempt
  pub table : Table
  pub unlocks : Unlocks s.table attempt.block.partition attempt.number table
  pub replica : Replica
  pub at : IsNumbered s attempt.replica replica
  pub new : Replica
  pub unstages : Unstages replica attempt.block.partition attempt.number new
  pub change : t ≡ record s { table = table; replicas = with_replica s.replicas attempt.replica new; attempts = attempts_without s.attempts id }

-- why a commit leaves all as it was
abbrev pub NoCommit : Cluster → ℕ → StepRefused → Type 0
NoCommit s id rf.NoAttempt = LacksAttempt s id
NoCommit s id rf.NotStaged = (a : Attempt) × IsAttempt s id a × (HasStaged s a → ⊥)
NoCommit s id (rf.LockGone n) = (a : Attempt) × IsAttempt s id a × HasStaged s a × LacksLock s.table a.block.partition a.number n
NoCommit s id why = ⊥

-- why the table refuses an attempt's block, whose lock is there
abbrev pub LostFor : Cluster → Attempt → StepRefused → Type 0
LostFor s a = NotAccepted s.table a.block.partition a.block.digest a.need (values_of s.table.schema a.block.rows)

-- a commit that the table refuses, although its lock is there, ends the attempt
pub record LosesAttempt (s : Cluster) (id : ℕ) (reply : Reply) (t : Cluster) : Type 0 where
  pub ends : EndsAttempt s id t
  pub staged : HasStaged s ends.attempt
  pub locked : IsLocked s.table.locks ends.attempt.block.partition ends.attempt.number
  pub why : StepRefused
  pub cause : LostFor s ends.attempt why
  pub answer : reply ≡ rp.Refused why

-- why an attempt isn't ended
abbrev pub NoEnd : Cluster → ℕ → StepRefused → Type 0
NoEnd s id rf.NoAttempt = LacksAttempt s id
NoEnd s id why = ⊥
