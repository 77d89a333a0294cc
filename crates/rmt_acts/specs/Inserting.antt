-- What the events of an INSERT's block come to, one after the other. No public clause cites this module.
use Rattle.std.specs.Prelude.{◌≡◌, ℕ, ◌≤◌, Bool, true, false, nat_le, [], ◌∷◌, length}
use Rattle.std.specs.declared.option.Option.{Option}
use Rattle.std.specs.declared.option.Option.TheVariants.{Some, None}
use Rattle.rmt_names.specs.Names.{block_name}
use Rattle.rmt_entries.specs.declared.entry.Entry.TheVariants.{Get}
use Rattle.rmt_model.specs.Quorum.{Pending, quorum_after_block, quorum_after_note}
use Rattle.rmt_events.specs.Views.{Block}
use Rattle.rmt_events.specs.Clusters.{Cluster}
use Rattle.rmt_events.specs.declared.event.Event.TheVariants as ev
use Rattle.rmt_events.specs.declared.reply.Reply.{Reply}
use Rattle.rmt_events.specs.declared.reply.Reply.TheVariants as rp
use Rattle.rmt_events.specs.declared.step_refused.StepRefused.TheVariants as rf
use Rattle.rmt_reply.specs.declared.refusal.Refusal.TheVariants.{TooFewLive, QuorumPending, LimitReached}
use Rattle.rmt_reply.specs.declared.piece.Piece.TheVariants as pieces
use Rattle.rmt_statement_model.specs.TableStates.{TableState, kept_with}
use Rattle.rmt_statement_model.specs.Gathered.{copied_to}
use Rattle.rmt_statement_model.specs.Inserts.{Asked, Inserts, Refuses, IsNew, number_for, with_number, number_limit, block_limit, quorum_refusal}
use Rattle.rmt_statement_model.specs.Shows.{HoldsNone, Shows, fetching_of, ups}
use Rattle.rmt_statement_model.specs.Attempts.{IsOpen, IsAccepted, HasPending}
use Rattle.rmt_acts.specs.StatementEvents.{Makes, GathersTo, GathersWhere, PieceEvents, RefusedEvents}
use Rattle.rmt_acts.specs.declared.begun.Begun.{Begun}
use Rattle.rmt_acts.specs.declared.begun.Begun.TheVariants as begun
use Rattle.rmt_acts.specs.declared.committed.Committed.{Committed}
use Rattle.rmt_acts.specs.declared.committed.Committed.TheVariants as committed
use Rattle.rmt_acts.specs.declared.outcome.Outcome.{Outcome}
use Rattle.rmt_acts.specs.declared.outcome.Outcome.TheVariants as outcomes

-- ---- a block gets a number

-- the reply says this
abbrev pub IsBegun : Reply → Begun → Type 0
IsBegun reply (begun.Attempt id n) = reply ≡ rp.Attempt id n
IsBegun reply (begun.TooFewLive live need) = reply ≡ rp.Refused (rf.TooFewLive live need)
IsBegun reply (begun.QuorumPending part) = reply ≡ rp.Refused (rf.QuorumPending part)
IsBegun reply (begun.Duplicate part) = reply ≡ rp.Refused (rf.Duplicate part)
IsBegun reply (begun.Full limit value) = reply ≡ rp.Refused (rf.LimitReached limit value)

-- a new block has the next number of its partition
pub record GetsNumber (up : ℕ → Bool) (t : TableState) (a : Asked) (b : Block) (n : ℕ) (u : Cluster) : Type 0 where
  pub is_new : IsNew up t a b
  pub room : number_limit t b ≡ None
  pub given : n ≡ number_for t b
  pub shows : Shows u (with_number t b)

-- the replica holds this number for the block, and no other number is held
abbrev pub HoldsOnly : Cluster → ℕ → Block → ℕ → Type 0
HoldsOnly s r b n = s.table.locks ≡ record { partition = b.partition; number = n; owner = r } ∷ []

-- how the insert of a block begins
abbrev pub Begins : Cluster → Asked → Block → Begun → Cluster → Type 0
Begins s a b (begun.Attempt id n) u = IsOpen u id a b n × HoldsOnly u a.writer b n × ((t : TableState) → Shows s t → GetsNumber (ups s) t a b n u)
Begins s a b (begun.TooFewLive live need) u = HoldsNone u × ((t : TableState) → Shows s t → (quorum_refusal (ups s) t a.need ≡ Some (TooFewLive live need)) × Shows u t)
Begins s a b (begun.QuorumPending part) u = HoldsNone u × ((t : TableState) → Shows s t → (quorum_refusal (ups s) t a.need ≡ Some (QuorumPending part)) × Shows u t)
Begins s a b (begun.Duplicate part) u = HoldsNone u × ((t : TableState) → Shows s t → (quorum_refusal (ups s) t a.need ≡ None) × (kept_with t b ≡ Some part) × Shows u t)
Begins s a b (begun.Full limit value) u = HoldsNone u × ((t : TableState) → Shows s t → IsNew (ups s) t a b × (number_limit t b ≡ Some (limit, value)) × Shows u t)

-- the block has no number
abbrev pub HasNone : Begun → Type 0
HasNone (begun.Attempt id n) = ⊥
HasNone b = Unit {0}

-- what becomes of it then
abbrev pub IsUnbegun : Begun → Outcome → Type 0
IsUnbegun (begun.TooFewLive live need) o = o ≡ outcomes.Refused (TooFewLive live need)
IsUnbegun (begun.QuorumPending part) o = o ≡ outcomes.Refused (QuorumPending part)
IsUnbegun (begun.Duplicate part) o = o ≡ outcomes.Inserted (pieces.Duplicate part)
IsUnbegun (begun.Full limit value) o = o ≡ outcomes.Refused (LimitReached limit value)
IsUnbegun (begun.Attempt id n) o = ⊥

-- ---- it is committed

-- an attempt of this id is open
pub record HasAttempt (s : Cluster) (id : ℕ) : Type 0 where
  pub asked : Asked
  pub block : Block
  pub number : ℕ
  pub is_open : IsOpen s id asked block number
  pub only : HoldsOnly s asked.writer block number

-- the replica of the open attempt of this id is up
abbrev pub IsUpWith : Cluster → ℕ → Type 0
IsUpWith s id = (a : Asked) (b : Block) (n : ℕ) → IsOpen s id a b n → ups s a.writer ≡ true

-- the table with the block's Get, whose part waits where a quorum is asked for
abbrev pub with_get : TableState → Asked → Block → ℕ → TableState
with_get t a b n = record t { log = Get b.partition n b.digest a.writer a.need ∷ t.log; blocks = record { partition = b.partition; number = n; rows = b.rows } ∷ t.blocks; quorum = quorum_after_block (block_name b.partition n) a.need t.quorum }

-- the block is accepted under its number
pub record TakesBlock (t : TableState) (a : Asked) (b : Block) (n place : ℕ) (u : Cluster) : Type 0 where
  pub room : block_limit t b ≡ None
  pub placed : place ≡ length t.log
  pub shows : Shows u (with_get t a b n)

-- the reply says this
abbrev pub IsCommitted : Reply → Committed → Type 0
IsCommitted reply (committed.Entry place) = reply ≡ rp.Entry place
IsCommitted reply (committed.Full limit value) = reply ≡ rp.Refused (rf.LimitReached limit value)

-- a part that waits is the one of this block, where it asks for a quorum
abbrev pub WaitsAlone : Cluster → Asked → Block → ℕ → Type 0
WaitsAlone s a b n = 2 ≤ a.need → (q : Pending) → s.table.quorum.pending ≡ Some q → q.part ≡ block_name b.partition n

-- what the commit of an attempt comes to
abbrev pub Commits : Cluster → ℕ → Committed → Cluster → Type 0
Commits s id (committed.Entry place) u =
    (a : Asked) (b : Block) (n : ℕ) → IsOpen s id a b n → IsAccepted u place a b n × WaitsAlone u a b n × ((t : TableState) → Shows s t → TakesBlock t a b n place u)
Commits s id (committed.Full limit value) u =
    (a : Asked) (b : Block) (n : ℕ) → IsOpen s id a b n → (t : TableState) → Shows s t → (block_limit t b ≡ Some (limit, value)) × Shows u t

-- ---- it is copied

-- the entry at this place is the Get of a block that its replica has staged
pub record HasGet (s : Cluster) (place : ℕ) (a : Asked) : Type 0 where
  pub block : Block
  pub number : ℕ
  pub is : IsAccepted s place a block number
  pub waits : WaitsAlone s a block number

-- another replica that is up may copy the Get at the place from the replica that wrote it
pub record MayCopy (s : Cluster) (place writer k : ℕ) : Type 0 where
  pub up : ups s k ≡ true
  pub fetches : fetching_of s k ≡ true
  pub from : ups s writer ≡ true
  pub knows : HasPending s place writer

-- the writer is noted, and of the replicas of the first so many numbers each that was asked has copied
pub record Gathered (s : Cluster) (writer place n : ℕ) (u : Cluster) : Type 0 where
  pub shows : (t : TableState) → Shows s t → Shows u (copied_to (ups s) writer place n (record t { quorum = quorum_after_note writer t.quorum }))
  pub knows : HasPending u place writer
  pub events : GathersTo s writer place n u
  pub ups_are : ups u ≡ ups s
  pub free : HoldsNone u
  pub schema : u.table.schema ≡ s.table.schema
  pub replicas : length u.replicas ≡ length s.replicas

-- how many have noted the part that waits, where one waits
abbrev pub TellsNoted : Option Pending → Option ℕ → Type 0
TellsNoted None have = have ≡ None
TellsNoted (Some q) have = have ≡ Some (length q.noted)

-- whether a block's quorum is met, or how many have noted its part
abbrev pub TellsWaiting : ℕ → Cluster → Option ℕ → Type 0
TellsWaiting need u None = 2 ≤ need → u.table.quorum.pending ≡ None
TellsWaiting need u (Some have) = (2 ≤ need) × (q : Pending) × (u.table.quorum.pending ≡ Some q) × (have ≡ length q.noted)

-- the Get is done at its writer, and its quorum gathered where it asks for one
pub record SpreadEvents (s : Cluster) (a : Asked) (place : ℕ) (u : Cluster) : Type 0 where
  pub mid : Cluster
  pub makes : Makes s (ev.Pull a.writer ∷ ev.Apply a.writer place ∷ []) mid
  pub gathers : GathersWhere (nat_le 2 a.need) mid a.writer place u

-- ---- what became of one block

abbrev pub ComesTo : (ℕ → Bool) → TableState → Asked → Block → Outcome → TableState → Type 0
ComesTo up t a b (outcomes.Inserted piece) u = Inserts false up t a b piece u
ComesTo up t a b (outcomes.Refused refusal) u = Refuses false up t a b refusal u

-- the events of one block
abbrev pub BlockEvents : Cluster → Asked → Outcome → Cluster → Type 0
BlockEvents s a (outcomes.Inserted piece) u = PieceEvents s a piece u
BlockEvents s a (outcomes.Refused refusal) u = RefusedEvents s a (Some refusal) u
