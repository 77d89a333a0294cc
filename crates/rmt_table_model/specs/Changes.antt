-- What each call makes of a table, and what has to be so before it.
-- ClickHouse documentation, Data Replication: inserts, merges, mutations and drops of a replicated table. The calls are this
-- program's own.
use Rattle.std.specs.Prelude.{◌≡◌, ℕ, ◌+◌, ◌<◌, ◌≤◌, List, [], ◌∷◌, length, slice_set, replicate}
use Rattle.std.specs.declared.option.Option.{Option}
use Rattle.std.specs.declared.option.Option.TheVariants.{Some, None}
use Rattle.rmt_model.specs.EntryLimits.{client_count, worker_count}
use Rattle.rmt_model.specs.BlockNumbers.{next_number, next_numbers_after}
use Rattle.rmt_values.specs.declared.checked_mutation.CheckedMutation.{CheckedMutation}
use Rattle.rmt_values.specs.Rows.{Shape}
use Rattle.rmt_values.specs.Commands.{CommandFits}
use Rattle.rmt_names.specs.Names.{Name, block_name, merged_name, last}
use Rattle.rmt_entries.specs.declared.entry.Entry.TheVariants.{Get, Merge, Mutate, Mutation, DropRange}
use Rattle.rmt_model.specs.Words.{Has, Each}
use Rattle.rmt_model.specs.Live.{live}
use Rattle.rmt_model.specs.Lawful.{ver, entry_at, IsMutationWith, mutation_count, mutations_through, block_count, AreNeighbours}
use Rattle.rmt_block.specs.Blocks.{IsId}
use Rattle.rmt_znodes.specs.Znodes.{IsPartition}
use Rattle.rmt_table_model.specs.Kept.{in_order, with_id}
use Rattle.rmt_table_model.specs.Numbers.{IsLocked, next_of, taken, locked, unlocked, unlocked_below, unlocked_by}
use Rattle.rmt_model.specs.Quorum.{quorum_after_block, quorum_after_drop, quorum_after_note}
use Rattle.rmt_table_model.specs.Tables.{TableView, IsOpen}

-- session s holds a lock on the next number of p
abbrev pub after_allocate : Option ℕ → ℕ → TableView → TableView
after_allocate p s v = record v { next = taken v.next p; holders = locked v.holders p (next_number v.next p) s }

-- the block with the number n is in the log, and its lock is gone
abbrev pub after_commit : Option ℕ → ℕ → List ℕ → ℕ → ℕ → ℕ → TableView → TableView
after_commit p n digest source need values v = record v {
  log = Get p n digest source need ∷ v.log;
  holders = unlocked v.holders p n;
  quorum = quorum_after_block (block_name p n) need v.quorum;
  values = v.values + values;
}

-- the lock is gone
abbrev pub after_abandon : Option ℕ → ℕ → TableView → TableView
after_abandon p n v = record v { holders = unlocked v.holders p n }

-- a mutation with the next number of each partition is in the log
abbrev pub after_mutation : CheckedMutation → TableView → TableView
after_mutation command v = record v { log = Mutation (mutation_count v.log) v.next command ∷ v.log; next = next_numbers_after v.next }

-- a drop with the next number of p is in the log; the locks and the parts with a quorum that lie below it are gone
abbrev pub after_drop : Option ℕ → TableView → TableView
after_drop p v = record v {
  log = DropRange p (next_number v.next p) ∷ v.log;
  next = taken v.next p;
  holders = unlocked_below v.holders p (next_number v.next p);
  quorum = quorum_after_drop p (next_number v.next p) v.quorum;
}

-- a merge of a and the others is in the log
abbrev pub after_merge : Name → List Name → TableView → TableView
after_merge a rest v = record v { log = Merge (merged_name a rest) (a ∷ rest) (block_count v.log (merged_name a rest)) ∷ v.log }

-- a mutation of one part, up to the mutation at a place, is in the log
abbrev pub after_mutate : Name → ℕ → ℕ → TableView → TableView
after_mutate old number upto v =
    record v { log = Mutate old (record old { mutation = number }) upto (block_count v.log old) (mutations_through v.log upto) ∷ v.log }

-- replica r has the session s
abbrev pub after_open : ℕ → ℕ → TableView → TableView
after_open r s v = record v { sessions = slice_set v.sessions r (Some s) }

-- replica r has no session, and the locks of the one that it had are gone
abbrev pub after_close : ℕ → ℕ → TableView → TableView
after_close r s v = record v { sessions = slice_set v.sessions r None; holders = unlocked_by v.holders s }

-- replica r has pulled the whole log
abbrev pub after_pull : ℕ → TableView → TableView
after_pull r v = record v { pulled = slice_set v.pulled r (length v.log) }

-- replica r has noted the pending part
abbrev pub after_note : ℕ → TableView → TableView
after_note r v = record v { quorum = quorum_after_note r v.quorum }

-- ---- what each call looks at first

-- a session takes a number of p
pub record MayAllocate (p : Option ℕ) (s : ℕ) (v : TableView) : Type 0 where
  pub is_partition : IsPartition p
  pub is_open : IsOpen v.sessions s
  pub partitions : next_of v.next p ≡ None → length v.next < 1024
  pub numbers : next_number v.next p < 65536

-- the block with the locked number n goes into the log
pub record MayCommit (p : Option ℕ) (n : ℕ) (digest : List ℕ) (need added : ℕ) (v : TableView) : Type 0 where
  pub id : IsId (record { partition = p; digest = digest })
  pub not_kept : with_id p digest (in_order v.schema.window v.log) ≡ None
  pub is_locked : IsLocked v.holders p n
  pub none_pending : 2 ≤ need → v.quorum.pending ≡ None
  pub client_entries : client_count v.log < 32768
  pub values : v.values + added ≤ 8388608

-- a mutation takes a number in each partition
pub record MayMutate (command : CheckedMutation) (v : TableView) : Type 0 where
  pub fits : CommandFits v.schema command
  pub mutations : mutation_count v.log < 1024
  pub numbers : (p : Option ℕ) (m : ℕ) → Has v.next (p, m) → m < 65536
  pub client_entries : client_count v.log < 32768

-- a partition that exists is dropped
pub record MayDrop (p : Option ℕ) (v : TableView) : Type 0 where
  pub number : ℕ
  pub exists : next_of v.next p ≡ Some number
  pub numbers : number < 65536
  pub client_entries : client_count v.log < 32768

-- live neighbours of one partition and one version, with no number in flight between them
pub record MayMerge (a b : Name) (rest : List Name) (v : TableView) : Type 0 where
  pub neighbours : AreNeighbours v.log (a ∷ b ∷ rest)
  pub partition : Each (λ c. c.partition ≡ a.partition) (b ∷ rest)
  pub version : Each (λ c. ver v.log c ≡ ver v.log a) (b ∷ rest)
  pub none_in_flight : (n : ℕ) → IsLocked v.holders a.partition n → a.min ≤ n → n ≤ (last a (b ∷ rest)).max → ⊥
  pub worker_entries : worker_count v.log < 32768

-- a live part, and a mutation that is pending for it
pub record MayMutateOne (old : Name) (number upto : ℕ) (v : TableView) : Type 0 where
  pub is_live : Has (live v.log) old
  pub at : IsMutationWith (entry_at v.log upto) old.partition number
  pub pending : ver v.log old < number
  pub worker_entries : worker_count v.log < 32768

-- a replica without a session gets one that no replica has
pub record MayOpen (r s : ℕ) (v : TableView) : Type 0 where
  pub is_here : r < length v.sessions
  pub is_new : IsOpen v.sessions s → ⊥

-- a new table of so many replicas
abbrev pub new_table : Shape → ℕ → TableView
new_table schema count = record {
  schema = schema;
  log = [];
  next = [];
  holders = λ p n. None;
  sessions = replicate count None;
  pulled = replicate count 0;
  quorum = record { pending = None; last = None };
  values = 0;
}
