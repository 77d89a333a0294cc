-- What the calls on a table change.
-- ClickHouse documentation, Data Replication: an insert takes a block number under a lock, and writes the entry and the
-- block's checksum in one step. ALTER: mutations and DROP PARTITION. That they all take numbers of one sequence, and the
-- limits, are this program's own.
use Rattle.std.specs.Prelude.{◌≡◌, ℕ, ◌+◌, ◌<◌, ◌≤◌, ◌&&◌, ◌||◌, Bool, not, cond, nat_eq, nat_lt, List, [], ◌∷◌, filter, take}
use Rattle.std.specs.Str.{bytes_eq}
use Rattle.std.specs.declared.option.Option.{Option}
use Rattle.std.specs.declared.option.Option.TheVariants.{Some, None}
use Rattle.rmt_values.specs.declared.checked_mutation.CheckedMutation.{CheckedMutation}
use Rattle.rmt_values.specs.Commands.{CommandFits}
use Rattle.rmt_names.specs.Names.{Name, rank, Covers, Spans, block_name}
use Rattle.rmt_entries.specs.declared.entry.Entry.{Entry}
use Rattle.rmt_entries.specs.declared.entry.Entry.TheVariants.{Get, Merge, Mutate, Mutation, DropRange}
use Rattle.rmt_model.specs.Words.{Has, Each}
use Rattle.rmt_model.specs.Lawful.{Meets, mutation_count}
use Rattle.rmt_model.specs.Window.{Kept}
use Rattle.rmt_model.specs.BlockNumbers.{next_number, with_next, next_numbers_after}
use Rattle.rmt_model.specs.EntryLimits.{worker_limit, allocate_limit, commit_limit, mutation_limit, drop_limit}
use Rattle.rmt_model.specs.Quorum.{Pending, quorum_after_block, quorum_after_drop, quorum_after_note}
use Rattle.rmt_events.specs.Views.{Lock, Table}

-- the number n of p is held
pub record IsLocked (locks : List Lock) (p : Option ℕ) (n : ℕ) : Type 0 where
  pub lock : Lock
  pub is_in : Has locks lock
  pub partition : lock.partition ≡ p
  pub number : lock.number ≡ n

-- whether a lock comes before another: by partition, then by number
abbrev pub precedes : Lock → Lock → Bool
precedes k l = nat_lt (rank k.partition) (rank l.partition) || (nat_eq (rank k.partition) (rank l.partition) && nat_lt k.number l.number)

-- the locks in order with one more
abbrev pub with_lock : Lock → List Lock → List Lock
with_lock k [] = k ∷ []
with_lock k (x ∷ xs) = cond (precedes x k) (x ∷ with_lock k xs) (k ∷ x ∷ xs)

-- the replicas in order with one more
abbrev pub with_session : ℕ → List ℕ → List ℕ
with_session r [] = r ∷ []
with_session r (x ∷ xs) = cond (nat_lt x r) (x ∷ with_session r xs) (r ∷ x ∷ xs)

-- whether the lock holds the number n of p
abbrev pub holds_number : Option ℕ → ℕ → Lock → Bool
holds_number p n k = nat_eq (rank k.partition) (rank p) && nat_eq k.number n

-- the locks without those of one number
abbrev pub locks_without : List Lock → Option ℕ → ℕ → List Lock
locks_without locks p n = filter (λ k. not (holds_number p n k)) locks

-- the locks without those of a partition below a number
abbrev pub locks_without_below : List Lock → Option ℕ → ℕ → List Lock
locks_without_below locks p n = filter (λ k. not (nat_eq (rank k.partition) (rank p) && nat_lt k.number n)) locks

-- the part that an id is kept with
abbrev pub kept_part : List Kept → Option ℕ → List ℕ → Option Name
kept_part [] p digest = None
kept_part (k ∷ ks) p digest = cond (nat_eq (rank p) (rank k.part.partition) && bytes_eq digest k.digest) (Some k.part) (kept_part ks p digest)

-- the kept ids with one more, at most w of them
abbrev pub window_with : ℕ → List Kept → Option ℕ → ℕ → List ℕ → List Kept
window_with w window p n digest = take w (record { digest = digest; part = block_name p n } ∷ window)

-- the kept ids without those of a partition's blocks below a number
abbrev pub window_without : List Kept → Option ℕ → ℕ → List Kept
window_without window p n = filter (λ k. not (nat_eq (rank k.part.partition) (rank p) && nat_lt k.part.min n)) window

-- ---- the calls

-- the table after one more entry
abbrev pub with_entry : Entry → Table → Table
with_entry e t = record t { log = e ∷ t.log }

-- a number is taken for a block whose id isn't kept, and a lock holds it
pub record Allocates (old : Table) (r : ℕ) (p : Option ℕ) (digest : List ℕ) (n : ℕ) (new : Table) : Type 0 where
  pub session : Has old.sessions r
  pub unkept : kept_part old.window p digest ≡ None
  pub within : allocate_limit old.next old.log p ≡ None
  pub number : n ≡ next_number old.next p
  pub change : new ≡ record old { next = with_next old.next p (n + 1); locks = with_lock (record { partition = p; number = n; owner = r }) old.locks }

-- the block of a lock is accepted
pub record Commits (old : Table) (p : Option ℕ) (n : ℕ) (digest : List ℕ) (r need values : ℕ) (new : Table) : Type 0 where
  pub locked : IsLocked old.locks p n
  pub unkept : kept_part old.window p digest ≡ None
  pub none_pending : 2 ≤ need → old.quorum.pending ≡ None
  pub within : commit_limit old.log old.values values ≡ None
  pub change : new ≡ record old {
    log = Get p n digest r need ∷ old.log;
    locks = locks_without old.locks p n;
    window = window_with old.schema.window old.window p n digest;
    quorum = quorum_after_block (block_name p n) need old.quorum;
    values = old.values + values;
  }

-- a lock goes, where it is there
abbrev pub Unlocks : Table → Option ℕ → ℕ → Table → Type 0
Unlocks old p n new = new ≡ record old { locks = locks_without old.locks p n }

-- none of the names covers the part that waits for its quorum
abbrev pub AreQuiet : Option Pending → List Name → Type 0
AreQuiet None names = Unit {0}
AreQuiet (Some q) names = Each (λ c. Covers c q.part → ⊥) names

-- a merge enters the log: it meets its line of a lawful log, no lock lies in its range, and none of its sources waits for its
-- quorum
pub record AssignsMerge (old : Table) (name : Name) (sources : List Name) (count : ℕ) (new : Table) : Type 0 where
  pub meets : Meets old.schema old.log (Merge name sources count)
  pub free : Each (λ k. Spans name k.partition k.number → ⊥) old.locks
  pub quiet : AreQuiet old.quorum.pending sources
  pub within : worker_limit old.log ≡ None
  pub change : new ≡ with_entry (Merge name sources count) old

-- a mutate of one part enters the log
pub record AssignsMutate (old : Table) (part name : Name) (upto count mcount : ℕ) (new : Table) : Type 0 where
  pub meets : Meets old.schema old.log (Mutate part name upto count mcount)
  pub within : worker_limit old.log ≡ None
  pub change : new ≡ with_entry (Mutate part name upto count mcount) old

-- a mutation takes a number in each partition
pub record CreatesMutation (old : Table) (command : CheckedMutation) (new : Table) : Type 0 where
  pub fits : CommandFits old.schema command
  pub within : mutation_limit old.next old.log ≡ None
  pub change : new ≡ record old { log = Mutation (mutation_count old.log) old.next command ∷ old.log; next = next_numbers_after old.next }

-- a drop takes the next number of a partition that exists, with the locks and the kept ids below it
pub record DropsPartition (old : Table) (p : Option ℕ) (n : ℕ) (new : Table) : Type 0 where
  pub exists : 0 < next_number old.next p
  pub within : drop_limit old.next old.log p ≡ None
  pub number : n ≡ next_number old.next p
  pub change : new ≡ record old { log = DropRange p n ∷ old.log; next = with_next old.next p (n + 1); locks = locks_without_below old.locks p n; window = window_without old.window p n; quorum = quorum_after_drop p n old.quorum }

-- a session ends, and its locks go
abbrev pub Closes : Table → ℕ → Table → Type 0
Closes old r new = new ≡ record old { locks = filter (λ k. not (nat_eq k.owner r)) old.locks; sessions = filter (λ s. not (nat_eq s r)) old.sessions }

-- a session is open
abbrev pub Opens : Table → ℕ → Table → Type 0
Opens old r new = new ≡ record old { sessions = with_session r (filter (λ s. not (nat_eq s r)) old.sessions) }

-- a replica has noted the part that is pending
abbrev pub Notes : Table → ℕ → Table → Type 0
Notes old r new = new ≡ record old { quorum = quorum_after_note r old.quorum }
