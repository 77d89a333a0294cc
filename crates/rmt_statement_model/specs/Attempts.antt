-- The attempt to insert one block: its events' replies, and what holds between them. No public clause cites this module.
use Rattle.std.specs.Prelude.{◌≡◌, ℕ, true, List}
use Rattle.std.specs.declared.option.Option.{Option}
use Rattle.std.specs.declared.option.Option.TheVariants.{Some, None}
use Rattle.rmt_names.specs.Names.{block_name}
use Rattle.rmt_entries.specs.declared.entry.Entry.TheVariants.{Get}
use Rattle.rmt_model.specs.Words.{Has}
use Rattle.rmt_model.specs.Lawful.{entry_at}
use Rattle.rmt_model.specs.Quorum.{Pending}
use Rattle.rmt_events.specs.Views.{Block, Replica}
use Rattle.rmt_events.specs.TableCalls.{IsLocked, kept_part}
use Rattle.rmt_events.specs.TableRefusals.{HasQuorum}
use Rattle.rmt_events.specs.ReplicaCalls.{IsStaged}
use Rattle.rmt_events.specs.Clusters.{Attempt, Cluster}
use Rattle.rmt_events.specs.ClusterChanges.{IsNumbered}
use Rattle.rmt_statement_model.specs.TableStates.{TableState}
use Rattle.rmt_statement_model.specs.Inserts.{Asked}
use Rattle.rmt_statement_model.specs.Shows.{Shows}
use Rattle.rmt_events.specs.declared.reply.Reply.{Reply}
use Rattle.rmt_events.specs.declared.reply.Reply.TheVariants as rp
use Rattle.rmt_events.specs.declared.step_refused.StepRefused.TheVariants as rf

-- an Allocate at a replica that is up is answered a number, a duplicate, a limit, or that there can be no quorum
abbrev pub IsAllocateReply : Reply → Type 0
IsAllocateReply (rp.Attempt id n) = Unit {0}
IsAllocateReply (rp.Refused (rf.TooFewLive live needed)) = Unit {0}
IsAllocateReply (rp.Refused (rf.QuorumPending a)) = Unit {0}
IsAllocateReply (rp.Refused (rf.Duplicate a)) = Unit {0}
IsAllocateReply (rp.Refused (rf.LimitReached limit value)) = Unit {0}
IsAllocateReply reply = ⊥

-- the Commit of a block that is ready is answered an entry's place or a limit
abbrev pub IsCommitReply : Reply → Type 0
IsCommitReply (rp.Entry place) = Unit {0}
IsCommitReply (rp.Refused (rf.LimitReached limit value)) = Unit {0}
IsCommitReply reply = ⊥

-- the attempt to insert a block, under a number
abbrev pub attempt_of : ℕ → Asked → Block → ℕ → Attempt
attempt_of id a b n = record { id = id; replica = a.writer; block = b; number = n; need = a.need }

-- it is open, and holds its number; no quorum keeps it out, and the block's id isn't kept
pub record IsOpen (s : Cluster) (id : ℕ) (a : Asked) (b : Block) (n : ℕ) : Type 0 where
  pub there : Has s.attempts (attempt_of id a b n)
  pub quorum : HasQuorum s.table a.need
  pub locked : IsLocked s.table.locks b.partition n
  pub unkept : kept_part s.table.window b.partition b.digest ≡ None

-- the block is staged at the replica under the number
pub record IsStagedAt (s : Cluster) (r : ℕ) (b : Block) (n : ℕ) : Type 0 where
  pub replica : Replica
  pub at : IsNumbered s r replica
  pub staged : IsStaged replica b.partition n b

-- the entry at this place is the Get of the block, which is staged at its replica still
pub record IsAccepted (s : Cluster) (place : ℕ) (a : Asked) (b : Block) (n : ℕ) : Type 0 where
  pub entry : entry_at s.table.log place ≡ Some (Get b.partition n b.digest a.writer a.need)
  pub staged : IsStagedAt s a.writer b n

-- the Get of the part that waits for its quorum, where one waits, stands at the place, and is known at the replica
pub record KnowsPending (t : TableState) (place r : ℕ) : Type 0 where
  pub partition : Option ℕ
  pub number : ℕ
  pub digest : List ℕ
  pub source : ℕ
  pub need : ℕ
  pub entry : entry_at t.log place ≡ Some (Get partition number digest source need)
  pub known : t.known r place ≡ true
  pub named : (q : Pending) → t.quorum.pending ≡ Some q → q.part ≡ block_name partition number

-- the cluster shows that it is so
pub record HasPending (s : Cluster) (place r : ℕ) : Type 0 where
  pub state : TableState
  pub shows : Shows s state
  pub knows : KnowsPending state place r
