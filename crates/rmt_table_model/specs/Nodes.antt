-- The nodes of a table's tree: what stands at each, given the table.
-- ClickHouse documentation, Data Replication, and the layout of its nodes. Which nodes there are is this program's own.
use Rattle.std.specs.Prelude.{◌≡◌, ◌≢◌, ◌↔◌, ℕ, zero, suc, ◌-◌, ◌<◌, ◌≤◌, true, false, cond, nat_eq, nat_lt, nat_le, List, [], ◌∷◌, ◌++◌, length, slice_get}
use Rattle.std.specs.Fmt.{decimal}
use Rattle.std.specs.declared.option.Option.{Option}
use Rattle.std.specs.declared.option.Option.TheVariants.{Some, None}
use Rattle.std.specs.Option.{option_map, option_and_then}
use Rattle.rmt_model.specs.BlockNumbers.{next_number}
use Rattle.rmt_names.specs.Names.{Name, block_name}
use Rattle.rmt_names.specs.Texts.{text_of}
use Rattle.rmt_entries.specs.declared.entry.Entry.{Entry}
use Rattle.rmt_entries.specs.declared.entry.Entry.TheVariants.{Get, Merge, Mutate, Mutation, DropRange}
use Rattle.rmt_model.specs.Lawful.{entry_at, mutation_count}
use Rattle.rmt_tree.specs.Trees.{TreeView, is_open}
use Rattle.rmt_tree.specs.declared.op.Op.{Op}
use Rattle.rmt_tree.specs.declared.op.Op.TheVariants as op
use Rattle.rmt_znodes.specs.declared.znode.Znode.TheVariants.{Log, LogEntry, Blocks, Block, Order, OrderOf, Numbers, Partition, Lock, Mutations, MutationNode, Quorum, Status, LastPart, Replicas, Replica, LogPointer, IsActive}
use Rattle.rmt_znodes.specs.Znodes.{id_text, znode_path, lock_path, order_path, entry_path}
use Rattle.rmt_znodes.specs.ZnodeStates.{ZnodeState, ZnodeStates, Limits, HasZnodes}
use Rattle.rmt_model.specs.Words.{Has, Each, Pairwise}
use Rattle.rmt_values.specs.declared.checked_mutation.CheckedMutation.{CheckedMutation}
use Rattle.rmt_table_model.specs.Numbers.{Nexts, Holders, IsLocked, next_of}
use Rattle.rmt_model.specs.Quorum.{QuorumBlock, Pending, quorum_blocks, is_dropped_by}
use Rattle.rmt_table_model.specs.Kept.{Placed, outlives, in_order, get_count, with_id, with_number}
use Rattle.rmt_table_model.specs.Tables.{TableView, IsSound, IsOpen}

-- a node with this data and nothing else
abbrev pub plain : List ℕ → ZnodeState
plain value = record { value = value; counter = 0; owner = None }

-- a node below which so many were numbered
abbrev pub counting : ℕ → ZnodeState
counting n = record { value = []; counter = n; owner = None }

-- an empty node of a session
abbrev pub owned : ℕ → ZnodeState
owned s = record { value = []; counter = 0; owner = Some s }

-- what a list has for the replica of this number, counted from 1
abbrev pub slot : {A : Type 0} → List A → ℕ → Option A
slot xs zero = None
slot xs (suc i) = slice_get xs i

-- the place of the mutation with this id
abbrev pub mutation_place : List Entry → ℕ → Option ℕ
mutation_place [] k = None
mutation_place (Mutation id numbers command ∷ log) k = cond (nat_eq id k) (Some (length log)) (mutation_place log k)
mutation_place (Get p n digest source need ∷ log) k = mutation_place log k
mutation_place (Merge new sources count ∷ log) k = mutation_place log k
mutation_place (Mutate old new upto count mcount ∷ log) k = mutation_place log k
mutation_place (DropRange p n ∷ log) k = mutation_place log k

-- numbers, each behind a space
abbrev pub spaced : List ℕ → List ℕ
spaced [] = []
spaced (n ∷ ns) = 32 ∷ (decimal n ++ spaced ns)

-- the pending part, the replicas that it needs, and those that have noted it
abbrev pub status_text : Pending → List ℕ
status_text q = text_of q.part ++ spaced (q.need ∷ q.noted)

-- how many of so many blocks were numbered: with no window none was
abbrev pub numbered_of : ℕ → ℕ → ℕ
numbered_of zero gets = 0
numbered_of (suc w) gets = gets

-- the number that the next kept block gets in the order
abbrev pub order_count : ℕ → List Entry → ℕ
order_count w log = numbered_of w (get_count log)

-- what stands at each node, where `bytes` are those of an entry
abbrev pub expected : (Entry → List ℕ) → TableView → ZnodeStates
expected bytes v Log = Some (counting (length v.log))
expected bytes v (LogEntry i) = option_map (λ e. plain (bytes e)) (entry_at v.log i)
expected bytes v Blocks = Some (plain [])
expected bytes v (Block p digest) = option_map (λ k. plain (text_of k.kept.part)) (with_id p digest (in_order v.schema.window v.log))
expected bytes v Order = Some (counting (order_count v.schema.window v.log))
expected bytes v (OrderOf i) = option_map (λ k. plain (id_text k.kept.part.partition k.kept.digest)) (with_number i (in_order v.schema.window v.log))
expected bytes v Numbers = Some (plain [])
expected bytes v (Partition p) = option_map counting (next_of v.next p)
expected bytes v (Lock p n) = option_map owned (v.holders p n)
expected bytes v Mutations = Some (plain [])
expected bytes v (MutationNode k) = option_map (λ i. plain (decimal i)) (mutation_place v.log k)
expected bytes v Quorum = Some (plain [])
expected bytes v Status = option_map (λ q. plain (status_text q)) v.quorum.pending
expected bytes v LastPart = option_map (λ a. plain (text_of a)) v.quorum.last
expected bytes v Replicas = Some (plain [])
expected bytes v (Replica r) = option_map (λ s. plain []) (slot v.sessions r)
expected bytes v (LogPointer r) = option_map (λ m. plain (decimal m)) (slot v.pulled r)
expected bytes v (IsActive r) = option_and_then (λ s. option_map owned s) (slot v.sessions r)

-- how many replicas have noted
abbrev pub noted_count : Option Pending → ℕ
noted_count None = 0
noted_count (Some q) = length q.noted

-- how many parts with a quorum aren't pending
abbrev pub met_count : Option Pending → List QuorumBlock → ℕ
met_count None others = length others
met_count (Some q) others = length others - 1

-- the number, 0 where there is none
abbrev pub or_zero : Option ℕ → ℕ
or_zero None = 0
or_zero (Some n) = n

-- no version is above: a log pointer rises with each set, and a status is set once a note, a last part once a quorum
abbrev pub version_limits : TableView → Limits
version_limits v (LogPointer r) = or_zero (slot v.pulled r)
version_limits v Status = noted_count v.quorum.pending
version_limits v LastPart = met_count v.quorum.pending (quorum_blocks v.log)
version_limits v x = 0

-- the tree of a table: its nodes are those of the table, its sessions the replicas'
pub record IsTreeOf (bytes : Entry → List ℕ) (t : TreeView) (v : TableView) : Type 0 where
  pub nodes : HasZnodes t (expected bytes v) (version_limits v)
  pub sessions : (s : ℕ) → (is_open t s ≡ true) ↔ IsOpen v.sessions s

-- ---- the operations of each call

-- makes a partition that isn't there
abbrev pub partition_ops : Option ℕ → Option ℕ → List Op
partition_ops p None = op.Create (znode_path (Partition p)) [] false None ∷ []
partition_ops p (Some n) = []

-- takes a number of p, which is the next one where p exists, and holds it for session s
abbrev pub take_ops : Option ℕ → ℕ → Option ℕ → List Op
take_ops p s next = partition_ops p next ++ op.Create (lock_path p) [] true (Some s) ∷ []

-- takes a number of p and holds it
abbrev pub allocate_ops : Option ℕ → ℕ → TableView → List Op
allocate_ops p s v = take_ops p s (next_of v.next p)

-- the kept block that has to leave so that at most suc w stay: the last of suc w or more
abbrev pub oldest : List Placed → Option Placed
oldest [] = None
oldest (k ∷ []) = Some k
oldest (k ∷ (j ∷ ks)) = oldest (j ∷ ks)

-- takes the nodes of a kept block away
abbrev pub leave_ops : Option Placed → List Op
leave_ops None = []
leave_ops (Some k) = op.Delete (znode_path (Block k.kept.part.partition k.kept.digest)) None ∷ op.Delete (znode_path (OrderOf k.number)) None ∷ []

-- keeps a block, and lets the oldest past the window go; a window of 0 keeps none
abbrev pub keep_ops : ℕ → List Placed → Option ℕ → List ℕ → Name → List Op
keep_ops zero ks p digest part = []
keep_ops (suc w) ks p digest part =
    op.Create (znode_path (Block p digest)) (text_of part) false None ∷ op.Create order_path (id_text p digest) true None
    ∷ leave_ops (cond (nat_lt w (length ks)) (oldest ks) None)

-- lets the kept blocks of p below n go
abbrev pub forget_ops : Option ℕ → ℕ → List Placed → List Op
forget_ops p n [] = []
forget_ops p n (k ∷ ks) = cond (outlives p n k) (forget_ops p n ks) (leave_ops (Some k) ++ forget_ops p n ks)

-- makes the node of the pending part where the block asks for a quorum
abbrev pub status_ops : Name → ℕ → List Op
status_ops a need = cond (nat_le 2 need) (op.Create (znode_path Status) (status_text (record { part = a; need = need; noted = [] })) false None ∷ []) []

-- commits the block with the locked number n
abbrev pub commit_ops : (Entry → List ℕ) → Option ℕ → ℕ → List ℕ → ℕ → ℕ → TableView → List Op
commit_ops bytes p n digest source need v =
    op.Delete (znode_path (Lock p n)) None ∷ op.Create entry_path (bytes (Get p n digest source need)) true None
    ∷ (keep_ops v.schema.window (in_order v.schema.window v.log) p digest (block_name p n) ++ status_ops (block_name p n) need)

-- takes a number of p and leaves no lock
abbrev pub number_ops : Option ℕ → ℕ → List Op
number_ops p n = op.Create (lock_path p) [] true None ∷ op.Delete (znode_path (Lock p n)) None ∷ []

-- takes these locks of p away
abbrev pub unlock_ops : Option ℕ → List ℕ → List Op
unlock_ops p [] = []
unlock_ops p (m ∷ ms) = op.Delete (znode_path (Lock p m)) None ∷ unlock_ops p ms

-- takes the pending part's node away where the drop does
abbrev pub pending_drop_ops : Option ℕ → ℕ → Option Pending → List Op
pending_drop_ops p n None = []
pending_drop_ops p n (Some q) = cond (is_dropped_by p n q.part) (op.Delete (znode_path Status) None ∷ []) []

-- takes the last part's node away where the drop does
abbrev pub last_drop_ops : Option ℕ → ℕ → Option Name → List Op
last_drop_ops p n None = []
last_drop_ops p n (Some a) = cond (is_dropped_by p n a) (op.Delete (znode_path LastPart) None ∷ []) []

-- drops the numbers of p below the next, where these are locked
abbrev pub drop_ops : (Entry → List ℕ) → Option ℕ → List ℕ → TableView → List Op
drop_ops bytes p locks v =
    number_ops p (next_number v.next p) ++ (unlock_ops p locks ++ (forget_ops p (next_number v.next p) (in_order v.schema.window v.log)
    ++ (op.Create entry_path (bytes (DropRange p (next_number v.next p))) true None
    ∷ (pending_drop_ops p (next_number v.next p) v.quorum.pending ++ last_drop_ops p (next_number v.next p) v.quorum.last))))

-- the nodes with these locks in place of their own
abbrev pub lock_states : Holders → ZnodeStates → ZnodeStates
lock_states holders states (Lock p n) = option_map owned (holders p n)
lock_states holders states y = states y

-- exactly the locked numbers of p below n, each once
pub record AreLocks (holders : Holders) (p : Option ℕ) (n : ℕ) (locks : List ℕ) : Type 0 where
  pub once : Pairwise ◌≢◌ locks
  pub each : Each (λ m. (m < n) × IsLocked holders p m) locks
  pub whole : (m : ℕ) → m < n → IsLocked holders p m → Has locks m

-- the nodes with these partitions in place of their own
abbrev pub next_states : Nexts → ZnodeStates → ZnodeStates
next_states next states (Partition p) = option_map counting (next_of next p)
next_states next states y = states y

-- takes a number in each of these partitions
abbrev pub numbers_ops : Nexts → List Op
numbers_ops [] = []
numbers_ops (x ∷ xs) = number_ops x.0 x.1 ++ numbers_ops xs

-- makes a mutation with the next number of each partition
abbrev pub mutation_ops : (Entry → List ℕ) → CheckedMutation → TableView → List Op
mutation_ops bytes command v =
    numbers_ops v.next ++ (op.Create (znode_path (MutationNode (mutation_count v.log))) (decimal (length v.log)) false None
    ∷ op.Create entry_path (bytes (Mutation (mutation_count v.log) v.next command)) true None ∷ [])

-- writes the last part
abbrev pub last_ops : Name → Option Name → List Op
last_ops a None = op.Create (znode_path LastPart) (text_of a) false None ∷ []
last_ops a (Some b) = op.Set (znode_path LastPart) (text_of a) None ∷ []

-- notes one more replica for the pending part: with enough of them the part is the last one
abbrev pub noted_ops : Pending → List ℕ → Option Name → List Op
noted_ops q noted last = cond (nat_lt (length noted) q.need)
    (op.Set (znode_path Status) (status_text (record { part = q.part; need = q.need; noted = noted })) None ∷ [])
    (op.Delete (znode_path Status) None ∷ last_ops q.part last)

-- a table in its tree: what is so of it at each moment
pub record IsTable (bytes : Entry → List ℕ) (t : TreeView) (v : TableView) : Type 0 where
  pub tree : IsTreeOf bytes t v
  pub sound : IsSound v
  pub same_many : length v.pulled ≡ length v.sessions
  pub few : length v.sessions ≤ 8

-- makes the nodes that each table has
abbrev pub fixed_ops : List Op
fixed_ops =
    op.Create (znode_path Log) [] false None ∷ op.Create (znode_path Blocks) [] false None ∷ op.Create (znode_path Order) [] false None ∷ op.Create (znode_path Numbers) [] false None
    ∷ op.Create (znode_path Mutations) [] false None ∷ op.Create (znode_path Quorum) [] false None ∷ op.Create (znode_path Replicas) [] false None ∷ []

-- makes the nodes of the replica behind r others
abbrev pub replica_ops : ℕ → List Op
replica_ops r = op.Create (znode_path (Replica (suc r))) [] false None ∷ op.Create (znode_path (LogPointer (suc r))) (decimal 0) false None ∷ []

-- makes the nodes of so many replicas behind r others
abbrev pub replicas_ops : ℕ → ℕ → List Op
replicas_ops r zero = []
replicas_ops r (suc k) = replica_ops r ++ replicas_ops (suc r) k

-- makes the nodes of a new table of so many replicas
abbrev pub new_ops : ℕ → List Op
new_ops count = fixed_ops ++ replicas_ops 0 count
