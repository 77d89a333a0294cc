-- What a table's tree has of its block numbers and of its kept ids.
use Rattle.std.proofs.Common.{◌≡◌, inr, refl, arith}
use Rattle.rmt_entries.specs.EntryBytes.{entry_bytes}
use Rattle.rmt_znodes.specs.declared.znode.Znode.{Znode}
use Rattle.rmt_znodes.specs.declared.znode.Znode.TheVariants.{Log, LogEntry, Blocks, Block, Order, OrderOf, Numbers, Partition, Lock, Mutations, MutationNode, Quorum, Status, LastPart, Replicas, Replica, LogPointer, IsActive}
use Rattle.rmt_znodes.proofs.ZnodeStateLemmas.{has_znodes-as}
use Rattle.rmt_table_model.specs.Tables.{TableView}
use Rattle.rmt_table_model.specs.Nodes.{expected, version_limits, next_states, lock_states}
use Rattle.rmt_table_model.specs.Inserts.{HasNumbers}
use Rattle.rmt_table_model.specs.Held.{Held, IsHeld, table_of, holders_in}

numbers-same : (v : TableView) (y : Znode) → expected entry_bytes v y ≡ next_states v.next (lock_states v.holders (expected entry_bytes v)) y
numbers-same v Log = refl
numbers-same v (LogEntry i) = refl
numbers-same v Blocks = refl
numbers-same v (Block p d) = refl
numbers-same v Order = refl
numbers-same v (OrderOf i) = refl
numbers-same v Numbers = refl
numbers-same v (Partition p) = refl
numbers-same v (Lock p n) = refl
numbers-same v Mutations = refl
numbers-same v (MutationNode k) = refl
numbers-same v Quorum = refl
numbers-same v Status = refl
numbers-same v LastPart = refl
numbers-same v Replicas = refl
numbers-same v (Replica r) = refl
numbers-same v (LogPointer r) = refl
numbers-same v (IsActive r) = refl

-- the block numbers
pub held-numbers : (h : Held) → IsHeld entry_bytes h → HasNumbers h.tree h.next (holders_in h.tree)
held-numbers h is = record {
  states = expected entry_bytes (table_of h);
  limits = version_limits (table_of h);
  nodes = has_znodes-as h.tree (expected entry_bytes (table_of h)) (next_states h.next (lock_states (holders_in h.tree) (expected entry_bytes (table_of h)))) (version_limits (table_of h)) (version_limits (table_of h)) is.tree.nodes (λ y k. numbers-same (table_of h) y) (λ y k. omega arith);
  above = refl;
  nexts = is.sound.nexts;
  partitions = is.sound.partitions;
  numbers = is.sound.within.numbers;
  given = λ p n l. is.sound.given p n (inr l);
}
