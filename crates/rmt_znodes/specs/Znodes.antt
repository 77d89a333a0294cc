-- The znodes that the tree of a table may have, each by what it stands for, and their paths.
-- ClickHouse documentation, Data Replication: the nodes of a table in ZooKeeper. Which there are here, that /blocks_order keeps
-- the order of /blocks, and that mutations are entries of /log, are this program's own.
use Rattle.std.specs.Prelude.{ℕ, ◌^◌, ◌<◌, List, [], ◌∷◌, ◌++◌, codes, IfSome}
use Rattle.std.specs.Fmt.{decimal}
use Rattle.std.specs.declared.option.Option.{Option}
use Rattle.rmt_names.specs.Texts.{partition_text}
use Rattle.rmt_block.specs.Blocks.{IsId, id_text_of}
use Rattle.rmt_paths.specs.Paths.{Names, digits}
use Rattle.rmt_znodes.specs.declared.znode.Znode.{Znode}
use Rattle.rmt_znodes.specs.declared.znode.Znode.TheVariants.{Log, LogEntry, Blocks, Block, Order, OrderOf, Numbers, Partition, Lock, Mutations, MutationNode, Quorum, Status, LastPart, Replicas, Replica, LogPointer, IsActive}

-- the text of a block's id
abbrev pub id_text : Option ℕ → List ℕ → List ℕ
id_text p digest = id_text_of (record { partition = p; digest = digest })

-- the path of a node
abbrev pub znode_path : Znode → Names
znode_path Log = codes "log" ∷ []
znode_path (LogEntry i) = codes "log" ∷ (codes "log-" ++ digits 10 i) ∷ []
znode_path Blocks = codes "blocks" ∷ []
znode_path (Block p digest) = codes "blocks" ∷ id_text p digest ∷ []
znode_path Order = codes "blocks_order" ∷ []
znode_path (OrderOf k) = codes "blocks_order" ∷ (codes "id-" ++ digits 10 k) ∷ []
znode_path Numbers = codes "block_numbers" ∷ []
znode_path (Partition p) = codes "block_numbers" ∷ partition_text p ∷ []
znode_path (Lock p n) = codes "block_numbers" ∷ partition_text p ∷ (codes "block-" ++ digits 10 n) ∷ []
znode_path Mutations = codes "mutations" ∷ []
znode_path (MutationNode k) = codes "mutations" ∷ digits 10 k ∷ []
znode_path Quorum = codes "quorum" ∷ []
znode_path Status = codes "quorum" ∷ codes "status" ∷ []
znode_path LastPart = codes "quorum" ∷ codes "last_part" ∷ []
znode_path Replicas = codes "replicas" ∷ []
znode_path (Replica r) = codes "replicas" ∷ decimal r ∷ []
znode_path (LogPointer r) = codes "replicas" ∷ decimal r ∷ codes "log_pointer" ∷ []
znode_path (IsActive r) = codes "replicas" ∷ decimal r ∷ codes "is_active" ∷ []

-- the path below which a lock gets its number
abbrev pub lock_path : Option ℕ → Names
lock_path p = codes "block_numbers" ∷ partition_text p ∷ codes "block-" ∷ []

-- the path below which an entry gets its number
abbrev pub entry_path : Names
entry_path = codes "log" ∷ codes "log-" ∷ []

-- the path below which a kept block gets its number
abbrev pub order_path : Names
order_path = codes "blocks_order" ∷ codes "id-" ∷ []

-- the name of a lock's node
abbrev pub lock_name : ℕ → List ℕ
lock_name n = codes "block-" ++ digits 10 n

-- the partition has its width
abbrev pub IsPartition : Option ℕ → Type 0
IsPartition p = IfSome p (λ n. n < 2 ^ 64)

-- each number has its width
abbrev pub IsZnode : Znode → Type 0
IsZnode Log = Unit {0}
IsZnode (LogEntry i) = i < 2 ^ 32
IsZnode Blocks = Unit {0}
IsZnode (Block p digest) = IsId (record { partition = p; digest = digest })
IsZnode Order = Unit {0}
IsZnode (OrderOf k) = k < 2 ^ 32
IsZnode Numbers = Unit {0}
IsZnode (Partition p) = IsPartition p
IsZnode (Lock p n) = IsPartition p × (n < 2 ^ 32)
IsZnode Mutations = Unit {0}
IsZnode (MutationNode k) = k < 2 ^ 32
IsZnode Quorum = Unit {0}
IsZnode Status = Unit {0}
IsZnode LastPart = Unit {0}
IsZnode Replicas = Unit {0}
IsZnode (Replica r) = r < 2 ^ 32
IsZnode (LogPointer r) = r < 2 ^ 32
IsZnode (IsActive r) = r < 2 ^ 32
