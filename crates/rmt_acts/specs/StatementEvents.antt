-- The events that a statement makes in its table's cluster, and no others.
-- No public source: the events are this program's own, one for each call on a table or a replica that ClickHouse's
-- documentation on Data Replication, OPTIMIZE and ALTER speaks of.
use Rattle.std.specs.Prelude.{◌≡◌, ◌⊎◌, ℕ, zero, suc, Bool, true, false, nat_le, List, [], ◌∷◌, length}
use Rattle.std.specs.declared.alloc.Global.{Global}
use Rattle.std.specs.declared.sync.Arc.{Arc}
use Rattle.std.specs.declared.option.Option.{Option}
use Rattle.std.specs.declared.option.Option.TheVariants.{Some, None}
use Rattle.rmt_block.specs.declared.block.Block.{Block}
use Rattle.rmt_names.specs.Names.{Name}
use Rattle.rmt_model.specs.Live.{live}
use Rattle.rmt_events.specs.Clusters.{Cluster}
use Rattle.rmt_events.specs.Steps.{Step, After}
use Rattle.rmt_events.specs.declared.event.Event.{Event}
use Rattle.rmt_events.specs.declared.event.Event.TheVariants as ev
use Rattle.rmt_events.specs.declared.reply.Reply.{Reply}
use Rattle.rmt_events.specs.declared.reply.Reply.TheVariants as rp
use Rattle.rmt_cluster.specs.Clusters.{Stops}
use Rattle.rmt_cluster.specs.Syncs.{Syncs, HasDone, EndsLacking}
use Rattle.rmt_reply.specs.declared.piece.Piece.{Piece}
use Rattle.rmt_reply.specs.declared.piece.Piece.TheVariants as pieces
use Rattle.rmt_reply.specs.declared.refusal.Refusal.{Refusal}
use Rattle.rmt_reply.specs.declared.refusal.Refusal.TheVariants.{NoSource, QuorumUnmet}
use Rattle.rmt_statement_model.specs.QuorumCopies.{is_asked}
use Rattle.rmt_statement_model.specs.Inserts.{Asked}
use Rattle.rmt_statement_model.specs.Shows.{fetching_of, ups}

-- these events, the first one first, lead from one cluster to another
abbrev pub Makes : Cluster → List Event → Cluster → Type 0
Makes s [] u = u ≡ s
Makes s (event ∷ later) u = (mid : Cluster) × (reply : Reply) × Step s event reply mid × Makes mid later u

-- ---- what brings a replica up to date

-- the replica pulls the log once, looks once at each entry that is pending then, in order, so that all are done, and then notes
-- the part that waits for its quorum
pub record CatchesUp (s : Cluster) (r : ℕ) (u : Cluster) : Type 0 where
  pub syncs : Syncs s r u
  pub done : HasDone u r (length u.table.log)

-- the same, or it ends at the first entry that isn't done: a Get whose part the replica can have from nowhere
abbrev pub SyncEvents : Cluster → ℕ → Option Refusal → Cluster → Type 0
SyncEvents s r None u = CatchesUp s r u
SyncEvents s r (Some (NoSource part source)) u = EndsLacking s r part source u
SyncEvents s r (Some refusal) u = ⊥

-- ---- INSERT

-- a block as it is offered
abbrev pub Offered : Type 0
Offered = Arc Block Global

-- one of the other replicas: where it is asked for a copy, it pulls the log, does the entry at the place, and notes the part
abbrev pub CopiesWhere : Bool → Cluster → ℕ → ℕ → Cluster → Type 0
CopiesWhere true s place k u = Makes s (ev.Pull k ∷ ev.Apply k place ∷ ev.Note k ∷ []) u
CopiesWhere false s place k u = u ≡ s

-- the writer of a part notes it, and then the replicas of the first so many numbers are asked for a copy, in order
abbrev pub GathersTo : Cluster → ℕ → ℕ → ℕ → Cluster → Type 0
GathersTo s r place zero u = Makes s (ev.Note r ∷ []) u
GathersTo s r place (suc n) u =
    (mid : Cluster) × GathersTo s r place n mid × CopiesWhere (is_asked mid.table.quorum.pending (ups mid) (fetching_of mid) r (suc n)) mid place (suc n) u

-- the same where there is to be a quorum; there are at most 8 replicas
abbrev pub GathersWhere : Bool → Cluster → ℕ → ℕ → Cluster → Type 0
GathersWhere true s r place u = GathersTo s r place 8 u
GathersWhere false s r place u = u ≡ s

-- a block is accepted: it gets a number, is staged and committed, and its replica pulls the log and does its Get; then its quorum is
-- gathered, where it asks for one
pub record AcceptsBlock (s : Cluster) (a : Asked) (u : Cluster) : Type 0 where
  pub block : Offered
  pub attempt : ℕ
  pub place : ℕ
  pub mid : Cluster
  pub makes : Makes s (ev.Allocate a.writer block a.need ∷ ev.Stage attempt ∷ ev.Commit attempt ∷ ev.Pull a.writer ∷ ev.Apply a.writer place ∷ []) mid
  pub gathers : GathersWhere (nat_le 2 a.need) mid a.writer place u

-- a block gets no number: there can be no quorum, it is a duplicate, or it would pass a limit
pub record TriesBlock (s : Cluster) (a : Asked) (u : Cluster) : Type 0 where
  pub block : Offered
  pub makes : Makes s (ev.Allocate a.writer block a.need ∷ []) u

-- a block is refused as it is committed
pub record LosesBlock (s : Cluster) (a : Asked) (u : Cluster) : Type 0 where
  pub block : Offered
  pub attempt : ℕ
  pub makes : Makes s (ev.Allocate a.writer block a.need ∷ ev.Stage attempt ∷ ev.Commit attempt ∷ []) u

-- a block whose piece of the reply is this
abbrev pub PieceEvents : Cluster → Asked → Piece → Cluster → Type 0
PieceEvents s a (pieces.Part part) u = AcceptsBlock s a u
PieceEvents s a (pieces.Duplicate part) u = TriesBlock s a u

-- the block that is refused, where one is; one whose quorum isn't met is in
abbrev pub RefusedEvents : Cluster → Asked → Option Refusal → Cluster → Type 0
RefusedEvents s a None u = u ≡ s
RefusedEvents s a (Some (QuorumUnmet have need)) u = AcceptsBlock s a u
RefusedEvents s a (Some refusal) u = TriesBlock s a u ⊎ LosesBlock s a u

-- blocks one after the other
abbrev pub InsertEvents : Cluster → Asked → List Piece → Option Refusal → Cluster → Type 0
InsertEvents s a [] refused u = RefusedEvents s a refused u
InsertEvents s a (piece ∷ rest) refused u = (mid : Cluster) × PieceEvents s a piece mid × InsertEvents mid a rest refused u

-- ---- ALTER .. DROP PARTITION

-- the partition isn't there, or the drop would pass a limit; or the replica pulls the log then, and does the drop
abbrev pub DropEvents : Cluster → ℕ → Option ℕ → Cluster → Type 0
DropEvents s r p u =
    Makes s (ev.DropPartition p ∷ []) u ⊎ ((place : ℕ) × Makes s (ev.DropPartition p ∷ ev.Pull r ∷ ev.Apply r place ∷ []) u)

-- ---- OPTIMIZE and WAIT MUTATION

-- after an event of background work the replica is brought up to date, where the event's entry entered the log
abbrev pub FollowsUp : Cluster → ℕ → Reply → Cluster → Type 0
FollowsUp s r (rp.Entry place) u = CatchesUp s r u
FollowsUp s r reply u = u ≡ s

-- some parts are merged at the replica
pub record MergesOnce (r : ℕ) (s u : Cluster) : Type 0 where
  pub sources : List Name
  pub mid : Cluster
  pub reply : Reply
  pub merges : Step s (ev.Merge r sources) reply mid
  pub follows : FollowsUp mid r reply u

-- a part is mutated at the replica
pub record MutatesOnce (r : ℕ) (s u : Cluster) : Type 0 where
  pub old : Name
  pub upto : ℕ
  pub mid : Cluster
  pub reply : Reply
  pub mutates : Step s (ev.Mutate r old upto) reply mid
  pub follows : FollowsUp mid r reply u

-- so many times at most, one after the other
abbrev pub AtMost : ℕ → (Cluster → Cluster → Type 0) → Cluster → Cluster → Type 0
AtMost zero Once s u = u ≡ s
AtMost (suc n) Once s u = AtMost n Once s u ⊎ ((mid : Cluster) × AtMost n Once s mid × Once mid u)

-- the replica is brought up to date, and something is done then at most so many times; or it ends since it lacks a part
pub record SyncsThen (s : Cluster) (r n : ℕ) (Once : Cluster → Cluster → Type 0) (u : Cluster) : Type 0 where
  pub mid : Cluster
  pub syncs : CatchesUp s r mid
  pub then_on : AtMost n Once mid u

-- OPTIMIZE: a merge at most for each partition that has its name in the reply, and one that is refused
abbrev pub OptimizeEvents : Cluster → ℕ → List Name → Option Refusal → Cluster → Type 0
OptimizeEvents s r names refused u = SyncsThen s r (suc (length names)) (MergesOnce r) u ⊎ SyncEvents s r refused u

-- WAIT MUTATION: a mutate at most for each part that was live
abbrev pub WaitEvents : Cluster → ℕ → Option Refusal → Cluster → Type 0
WaitEvents s r refused u = SyncsThen s r (length (live s.table.log)) (MutatesOnce r) u ⊎ SyncEvents s r refused u

-- ---- where no memory was left

-- some events were done, and the next one stopped
pub record StopsAfter (s u : Cluster) : Type 0 where
  pub events : List (Event × Reply)
  pub mid : Cluster
  pub made : After s events mid
  pub event : Event
  pub stops : Stops mid event u
