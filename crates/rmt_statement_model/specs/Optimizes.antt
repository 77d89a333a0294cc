-- OPTIMIZE .. FINAL: partition by partition, until one can't be merged.
-- ClickHouse documentation, OPTIMIZE: FINAL merges all parts of a partition into one. That a single part stays as it is, and that
-- parts of different mutations aren't merged, is this program's own.
use Rattle.std.specs.Prelude.{◌≡◌, ◌⊎◌, ℕ, ◌≤◌, cond, nat_eq, Bool, List, [], ◌∷◌, length, filter}
use Rattle.std.specs.declared.option.Option.{Option}
use Rattle.std.specs.declared.option.Option.TheVariants.{Some, None}
use Rattle.rmt_names.specs.Names.{Name, rank}
use Rattle.rmt_entries.specs.declared.entry.Entry.{Entry}
use Rattle.rmt_entries.specs.declared.entry.Entry.TheVariants.{Merge}
use Rattle.rmt_model.specs.Live.{live}
use Rattle.rmt_model.specs.Lawful.{Lawful}
use Rattle.rmt_model.specs.Quorum.{Pending}
use Rattle.rmt_model.specs.EntryLimits.{worker_limit}
use Rattle.rmt_events.specs.TableCalls.{AreQuiet}
use Rattle.rmt_events.specs.TableRefusals.{AreFirstToDiffer, AreFirstInQuorum, AreAlike}
use Rattle.rmt_reply.specs.declared.refusal.Refusal.{Refusal}
use Rattle.rmt_reply.specs.declared.refusal.Refusal.TheVariants.{LimitReached, Unmergeable}
use Rattle.rmt_statement_model.specs.TableStates.{TableState, synced}
use Rattle.rmt_statement_model.specs.Rests.{Rests}
use Rattle.rmt_statement_model.specs.LostSources.{LacksSource}

-- the live names of a partition, in order
abbrev pub live_of : List Entry → Option ℕ → List Name
live_of log p = filter (λ a. nat_eq (rank a.partition) (rank p)) (live log)

-- the partitions with one more before them, unless it is the first
abbrev pub with_partition : Option ℕ → List (Option ℕ) → List (Option ℕ)
with_partition p [] = p ∷ []
with_partition p (q ∷ qs) = cond (nat_eq (rank p) (rank q)) (q ∷ qs) (p ∷ q ∷ qs)

-- the partitions of names in order, each once
abbrev pub partitions_of : List Name → List (Option ℕ)
partitions_of [] = []
partitions_of (a ∷ names) = with_partition a.partition (partitions_of names)

-- the partitions that are optimized: of those that have live names all, or the one that is named
abbrev pub partitions_asked : Option (Option ℕ) → List Entry → List (Option ℕ)
partitions_asked None log = partitions_of (live log)
partitions_asked (Some p) log = filter (λ q. nat_eq (rank q) (rank p)) (partitions_of (live log))

-- all live names of the partition are merged into one, within the limit of worker entries; none of them covers the part that
-- waits for its quorum
pub record MergesLive (t : TableState) (p : Option ℕ) (name : Name) (u : TableState) : Type 0 where
  pub first : Name
  pub second : Name
  pub rest : List Name
  pub sources : live_of t.log p ≡ first ∷ second ∷ rest
  pub count : ℕ
  pub quiet : AreQuiet t.quorum.pending (first ∷ second ∷ rest)
  pub room : worker_limit t.log ≡ None
  pub lawful : Lawful t.schema (Merge name (first ∷ second ∷ rest) count ∷ t.log)
  pub change : u ≡ record t { log = Merge name (first ∷ second ∷ rest) count ∷ t.log }

-- the partition has one live name, or all of them are merged into one
abbrev pub Optimizes : TableState → Option ℕ → Name → TableState → Type 0
Optimizes t p name u = ((live_of t.log p ≡ name ∷ []) × (u ≡ t)) ⊎ MergesLive t p name u

-- the first neighbours among the names whose versions differ, or of which one covers the part that waits for its quorum
abbrev pub AreFirstUnmergeable : List Entry → Option Pending → List Name → Name → Name → Type 0
AreFirstUnmergeable log pending names left right =
    AreFirstToDiffer log pending names left right ⊎ ((part : Name) × AreFirstInQuorum log pending names left right part)

-- why the partition's live names, two or more, aren't merged: neighbours that may not be, or a limit
abbrev pub CantOptimize : TableState → Option ℕ → Refusal → Type 0
CantOptimize t p (Unmergeable left right) = AreFirstUnmergeable t.log t.quorum.pending (live_of t.log p) left right
CantOptimize t p (LimitReached limit value) =
    (2 ≤ length (live_of t.log p)) × AreAlike t.log t.quorum.pending (live_of t.log p) × (worker_limit t.log ≡ Some (limit, value))
CantOptimize t p refusal = ⊥

-- the table rests, the partition gets one part, and the table rests again
pub record OptimizesLater (workers : Bool) (t : TableState) (p : Option ℕ) (name : Name) (u : TableState) : Type 0 where
  pub at : TableState
  pub rests : Rests workers t at
  pub mid : TableState
  pub optimizes : Optimizes at p name mid
  pub after : Rests workers mid u

-- the table rests, and the partition can't get one part then
pub record CantLater (workers : Bool) (t : TableState) (p : Option ℕ) (refusal : Refusal) (u : TableState) : Type 0 where
  pub rests : Rests workers t u
  pub cant : CantOptimize u p refusal

-- one partition after the other, the replica brought up to date after each: its one name, or why there is none, after which no
-- other partition is tried
abbrev pub OptimizesAll : Bool → TableState → ℕ → List (Option ℕ) → List Name → Option Refusal → TableState → Type 0
OptimizesAll workers t r [] [] None u = u ≡ t
OptimizesAll workers t r (p ∷ ps) [] (Some refusal) u = CantLater workers t p refusal u
OptimizesAll workers t r (p ∷ ps) (name ∷ names) refused u = (mid : TableState) × OptimizesLater workers t p name mid × OptimizesAll workers (synced r mid) r ps names refused u
OptimizesAll workers t r ps names refused u = ⊥

-- the replica lacks a part, and nothing is merged
pub record LacksPart (up : ℕ → Bool) (t : TableState) (r : ℕ) (names : List Name) (refused : Option Refusal) (u : TableState) : Type 0 where
  pub none : names ≡ []
  pub refusal : Refusal
  pub is_refused : refused ≡ Some refusal
  pub lacks : LacksSource up t r refusal u

-- OPTIMIZE at a replica, which is brought up to date first
abbrev pub OptimizesTable : Bool → (ℕ → Bool) → TableState → ℕ → Option (Option ℕ) → List Name → Option Refusal → TableState → Type 0
OptimizesTable workers up t r asked names refused u =
    LacksPart up t r names refused u ⊎ OptimizesAll workers (synced r t) r (partitions_asked asked t.log) names refused u
