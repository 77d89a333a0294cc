-- A table as its log and its tree have it.
-- ClickHouse documentation, Data Replication. What is kept in memory beside the tree is this program's own.
use Rattle.std.specs.Prelude.{◌≡◌, ℕ, ◌-◌, ◌≤◌, Bool, true, false, cond, nat_eq, List, [], ◌∷◌, length, slice_get, slice_index_or}
use Rattle.std.specs.declared.option.Option.{Option}
use Rattle.std.specs.declared.option.Option.TheVariants.{Some, None}
use Rattle.rmt_row.specs.Token.{Token, IsOf}
use Rattle.rmt_entries.specs.declared.entry.Entry.{Entry}
use Rattle.rmt_entries.specs.declared.entry.Entry.TheVariants.{Merge, Mutate, DropRange}
use Rattle.rmt_entries.specs.EntryBytes.{entry_bytes}
use Rattle.rmt_model.specs.Lawful.{IsPrefix, mutation_count}
use Rattle.rmt_model.specs.EntryLimits.{client_count, worker_count}
use Rattle.rmt_table_model.specs.Kept.{Placed, in_order, get_count}
use Rattle.rmt_table_model.specs.Tables.{session_of}
use Rattle.rmt_table_model.specs.Held.{Held, IsHeld, table_of, holders_in}
use Rattle.std.specs.Fmt.{decimal}
use Rattle.rmt_history.specs.Copies.{History, IsLogOf}
use Rattle.rmt_tree.specs.Trees.{IsLeastFree, opened, ended}
use Rattle.rmt_tree.specs.Ops.{after_all}
use Rattle.rmt_tree.specs.declared.op.Op.{Op}
use Rattle.rmt_tree.specs.declared.op.Op.TheVariants as op
use Rattle.rmt_znodes.specs.declared.znode.Znode.TheVariants.{Lock, LogPointer, IsActive}
use Rattle.rmt_znodes.specs.Znodes.{znode_path, entry_path}
use Rattle.rmt_events.specs.Views.{Table}
use Rattle.rmt_events.specs.TableCalls.{Unlocks, DropsPartition, AssignsMerge, AssignsMutate}
use Rattle.rmt_model.specs.BlockNumbers.{next_number}
use Rattle.rmt_names.specs.Names.{Name}
use Rattle.rmt_table_model.specs.Nodes.{AreLocks, drop_ops}
use Rattle.rmt_table.specs.declared.lock.Lock as lock
use Rattle.rmt_table.specs.declared.commit_error.CommitError.{CommitError}
use Rattle.rmt_table.specs.declared.commit_error.CommitError.TheVariants as commit
use Rattle.rmt_table.specs.SeenTable.{shown}

-- the table that events see
abbrev pub table_at : Held → Table
table_at h = shown (table_of h)

-- a replica of the table
pub record IsReplica (h : Held) (r : ℕ) : Type 0 where
  pub first : 1 ≤ r
  pub last : r ≤ length h.sessions

-- how many entries of clients, of workers, of mutations and of blocks the log has, and the kept ids
pub record Counts : Type 0 where
  pub clients : ℕ
  pub workers : ℕ
  pub mutations : ℕ
  pub blocks : ℕ
  pub window : List Placed

-- they are those of the log
pub record AreCounts (h : Held) (counts : Counts) : Type 0 where
  pub clients : counts.clients ≡ client_count h.log
  pub workers : counts.workers ≡ worker_count h.log
  pub mutations : counts.mutations ≡ mutation_count h.log
  pub blocks : counts.blocks ≡ get_count h.log
  pub window : counts.window ≡ in_order h.schema.window h.log

-- the row has as many cells as a log may have entries, and each token is of the cell at its place
pub record ArePlaced (row : List ℕ) (tokens : List (Token Entry)) : Type 0 where
  pub cells : length row ≡ 65536
  pub each : (i : ℕ) (t : Token Entry) → slice_get tokens i ≡ Some t → (t.place ≡ i) × IsOf row t

-- a sound table in its tree, with its counts, and each token of the cell at its place
pub record IsTableTree (h : Held) (tokens : List (Token Entry)) (counts : Counts) : Type 0 where
  pub held : IsHeld entry_bytes h
  pub counted : AreCounts h counts
  pub places : ArePlaced h.row tokens

-- the table without a lock, which was there
pub record IsUnlocked (old : Held) (p : Option ℕ) (n : ℕ) (new : Held) : Type 0 where
  pub seen : Unlocks (table_at old) p n (table_at new)
  pub tree : new.tree ≡ after_all old.tree (op.Delete (znode_path (Lock p n)) None ∷ [])

-- the table after an answer why a block isn't accepted: the lock goes, but where it was gone and where no memory was left
abbrev pub AfterNoCommit : Held → lock.Lock → CommitError → Held → Type 0
AfterNoCommit old k (commit.LockGone n) new = new ≡ old
AfterNoCommit old k commit.Memory new = new ≡ old
AfterNoCommit old k (commit.TooFewLive live needed) new = IsUnlocked old k.id.partition k.number new
AfterNoCommit old k (commit.QuorumPending a) new = IsUnlocked old k.id.partition k.number new
AfterNoCommit old k (commit.Duplicate a) new = IsUnlocked old k.id.partition k.number new
AfterNoCommit old k (commit.LimitReached limit value) new = IsUnlocked old k.id.partition k.number new

-- the ops that remove a lock, where it is there
abbrev pub abandon_ops : Bool → Option ℕ → ℕ → List Op
abandon_ops false p n = []
abandon_ops true p n = op.Delete (znode_path (Lock p n)) None ∷ []

-- a session starts: the one of the least number that no session has, and the node that says so
pub record StartsSession (old : Held) (r : ℕ) (new : Held) : Type 0 where
  pub session : ℕ
  pub free : IsLeastFree old.tree session
  pub tree : new.tree ≡ after_all (opened old.tree session) (op.Create (znode_path (IsActive r)) [] false (Some session) ∷ [])

-- the same, where the replica has none
abbrev pub OpensTree : Option ℕ → Held → ℕ → Held → Type 0
OpensTree None old r new = StartsSession old r new
OpensTree (Some s) old r new = new ≡ old

-- the session ends, where the replica has one
abbrev pub ClosesTree : Option ℕ → Held → Held → Type 0
ClosesTree None old new = new ≡ old
ClosesTree (Some s) old new = new.tree ≡ ended old.tree s

-- the session of a replica
abbrev pub session_at : Held → ℕ → Option ℕ
session_at h r = session_of h.sessions (r - 1)

-- a copy of a prefix of the table's log, of the table's cell row
pub record IsCopyOf (h : Held) (copy : History) : Type 0 where
  pub schema : copy.schema ≡ h.schema
  pub prefix : IsPrefix copy.log h.log
  pub cells : IsLogOf h.row copy

-- the op that sets how much a replica has pulled, where it is another length
abbrev pub pull_ops : ℕ → ℕ → ℕ → List Op
pull_ops r found len = cond (nat_eq found len) [] (op.Set (znode_path (LogPointer r)) (decimal len) None ∷ [])

-- the token of an entry in the cell at a place of a row
abbrev pub token_in : List ℕ → ℕ → Entry → Token Entry
token_in row i e = record { place = i; value = e; cell = slice_index_or row i 0 }

-- the token of the next entry of the table's log
abbrev pub next_token : Held → Entry → Token Entry
next_token h e = token_in h.row (length h.log) e

-- the op that writes an entry
abbrev pub entry_ops : Entry → List Op
entry_ops e = op.Create entry_path (entry_bytes e) true None ∷ []

-- a drop of the numbers of p below its next one is appended; its locks are these
pub record Drops (old : Held) (p : Option ℕ) (token : Token Entry) (new : Held) : Type 0 where
  pub token_is : token ≡ next_token old (DropRange p (next_number old.next p))
  pub seen : DropsPartition (table_at old) p (next_number old.next p) (table_at new)
  pub locks : List ℕ
  pub are_locks : AreLocks (holders_in old.tree) p (next_number old.next p) locks
  pub tree : new.tree ≡ after_all old.tree (drop_ops entry_bytes p locks (table_of old))

-- the same, where the partition exists; else nothing changes
abbrev pub IsDrop : Held → Option ℕ → Option (Token Entry) → Held → Type 0
IsDrop old p None new = (next_number old.next p ≡ 0) × (new ≡ old)
IsDrop old p (Some token) new = Drops old p token new

-- a merge of these names is appended
pub record IsMergeOf (old : Held) (names : List Name) (token : Token Entry) (new : Held) : Type 0 where
  pub name : Name
  pub count : ℕ
  pub token_is : token ≡ next_token old (Merge name names count)
  pub seen : AssignsMerge (table_at old) name names count (table_at new)
  pub tree : new.tree ≡ after_all old.tree (entry_ops (Merge name names count))

-- the mutation of a part, up to the mutation at a place, is appended
pub record IsMutateOf (old : Held) (part : Name) (upto : ℕ) (token : Token Entry) (new : Held) : Type 0 where
  pub name : Name
  pub count : ℕ
  pub mcount : ℕ
  pub token_is : token ≡ next_token old (Mutate part name upto count mcount)
  pub seen : AssignsMutate (table_at old) part name upto count mcount (table_at new)
  pub tree : new.tree ≡ after_all old.tree (entry_ops (Mutate part name upto count mcount))
