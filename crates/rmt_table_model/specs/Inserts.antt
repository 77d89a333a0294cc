-- What the nodes of a tree have of a table's block numbers, whatever else it has, and what is told of kept ids.
-- ClickHouse documentation, Data Replication: block numbers, and the checksums of the blocks inserted last.
use Rattle.std.specs.Prelude.{◌≡◌, ℕ, ◌<◌, ◌≤◌, List, [], ◌++◌}
use Rattle.std.specs.declared.option.Option.{Option}
use Rattle.std.specs.declared.option.Option.TheVariants.{Some, None}
use Rattle.std.specs.Option.{option_map}
use Rattle.rmt_names.specs.Names.{Name, IsName}
use Rattle.rmt_tree.specs.Trees.{TreeView}
use Rattle.rmt_model.specs.Words.{Has, Each, Pairwise}
use Rattle.rmt_znodes.specs.declared.znode.Znode.TheVariants.{Numbers}
use Rattle.rmt_znodes.specs.Znodes.{IsPartition}
use Rattle.rmt_znodes.specs.ZnodeStates.{ZnodeStates, Limits, HasZnodes}
use Rattle.rmt_table_model.specs.Numbers.{Nexts, Holders, IsLocked, IsPast, AreNexts}
use Rattle.rmt_table_model.specs.Kept.{Placed, Differ, IsIdZnode, with_id}
use Rattle.rmt_tree.specs.declared.op.Op.{Op}
use Rattle.rmt_table_model.specs.Nodes.{plain, next_states, lock_states, unlock_ops, forget_ops, AreLocks}

-- the node above the partitions is there; the partitions that exist are these, each with the number that it gives next, and the locks are these
pub record HasNumbers (t : TreeView) (next : Nexts) (holders : Holders) : Type 0 where
  pub states : ZnodeStates
  pub limits : Limits
  pub nodes : HasZnodes t (next_states next (lock_states holders states)) limits
  pub above : states Numbers ≡ Some (plain [])
  pub nexts : AreNexts next
  pub partitions : (p : Option ℕ) (m : ℕ) → Has next (p, m) → IsPartition p
  pub numbers : (p : Option ℕ) (m : ℕ) → Has next (p, m) → m ≤ 65536
  pub given : (p : Option ℕ) (n : ℕ) → IsLocked holders p n → IsPast next p n

-- the part that the block with this id got, where the id is kept
abbrev pub part_of : Option ℕ → List ℕ → List Placed → Option Name
part_of p digest ks = option_map (λ k. k.kept.part) (with_id p digest ks)

-- the least locked number of p from one number to another, both among them; none where none of these is locked
abbrev pub IsLeastLocked : Holders → Option ℕ → ℕ → ℕ → Option ℕ → Type 0
IsLeastLocked holders p from to None = (n : ℕ) → from ≤ n → n ≤ to → IsLocked holders p n → ⊥
IsLeastLocked holders p from to (Some n) = (from ≤ n) × (n ≤ to) × IsLocked holders p n × ((m : ℕ) → from ≤ m → m < n → IsLocked holders p m → ⊥)

-- the ops take the locks of p below n away, each once, and then the kept ids of its blocks below n
pub record AreDropOps (holders : Holders) (ks : List Placed) (p : Option ℕ) (n : ℕ) (ops : List Op) : Type 0 where
  pub locks : List ℕ
  pub are_locks : AreLocks holders p n locks
  pub ops_are : ops ≡ unlock_ops p locks ++ forget_ops p n ks
