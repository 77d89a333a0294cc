-- What the nodes of a table's tree hold, by what they stand for, and how operations change it.
-- ZooKeeper Programmer's Guide, "The ZooKeeper Data Model": data, version and ephemeral owner of a znode. Nodes by what they
-- stand for are this program's own.
use Rattle.std.specs.Prelude.{◌≡◌, ◌⊎◌, ℕ, suc, ◌≤◌, ◌&&◌, Bool, true, false, cond, not, nat_eq, is_some, List, []}
use Rattle.std.specs.Str.{bytes_eq}
use Rattle.std.specs.declared.option.Option.{Option}
use Rattle.std.specs.declared.option.Option.TheVariants.{Some, None}
use Rattle.std.specs.Option.{option_map}
use Rattle.rmt_names.specs.Names.{rank}
use Rattle.rmt_paths.specs.Paths.{Names}
use Rattle.rmt_tree.specs.Trees.{Node, TreeView, node_at, is_session}
use Rattle.rmt_tree.specs.Ops.{first_refusal, after_all}
use Rattle.rmt_tree.specs.declared.op.Op.{Op}
use Rattle.rmt_znodes.specs.declared.znode.Znode.{Znode}
use Rattle.rmt_znodes.specs.declared.znode.Znode.TheVariants.{Log, LogEntry, Blocks, Block, Order, OrderOf, Numbers, Partition, Lock, Mutations, MutationNode, Quorum, Status, LastPart, Replicas, Replica, LogPointer, IsActive}
use Rattle.rmt_znodes.specs.Znodes.{znode_path, IsZnode}

-- what a node has, but for its version
pub record ZnodeState : Type 0 where
  pub value : List ℕ
  pub counter : ℕ
  pub owner : Option ℕ

-- what a node has, its version left out
abbrev pub state_of : Node → ZnodeState
state_of n = record { value = n.value; counter = n.counter; owner = n.owner }

-- the nodes that are there, by what they stand for
abbrev pub ZnodeStates : Type 0
ZnodeStates = Znode → Option ZnodeState

-- two nodes are one
abbrev pub same_znode : Znode → Znode → Bool
same_znode Log Log = true
same_znode (LogEntry i) (LogEntry j) = nat_eq i j
same_znode Blocks Blocks = true
same_znode (Block p d) (Block q e) = nat_eq (rank p) (rank q) && bytes_eq d e
same_znode Order Order = true
same_znode (OrderOf i) (OrderOf j) = nat_eq i j
same_znode Numbers Numbers = true
same_znode (Partition p) (Partition q) = nat_eq (rank p) (rank q)
same_znode (Lock p m) (Lock q n) = nat_eq (rank p) (rank q) && nat_eq m n
same_znode Mutations Mutations = true
same_znode (MutationNode i) (MutationNode j) = nat_eq i j
same_znode Quorum Quorum = true
same_znode Status Status = true
same_znode LastPart LastPart = true
same_znode Replicas Replicas = true
same_znode (Replica r) (Replica s) = nat_eq r s
same_znode (LogPointer r) (LogPointer s) = nat_eq r s
same_znode (IsActive r) (IsActive s) = nat_eq r s
same_znode x y = false

-- the node right above; none where it is the root
abbrev pub above : Znode → Option Znode
above Log = None
above (LogEntry i) = Some Log
above Blocks = None
above (Block p d) = Some Blocks
above Order = None
above (OrderOf k) = Some Order
above Numbers = None
above (Partition p) = Some Numbers
above (Lock p n) = Some (Partition p)
above Mutations = None
above (MutationNode k) = Some Mutations
above Quorum = None
above Status = Some Quorum
above LastPart = Some Quorum
above Replicas = None
above (Replica r) = Some Replicas
above (LogPointer r) = Some (Replica r)
above (IsActive r) = Some (Replica r)

-- nothing is ever below the node
abbrev pub is_leaf : Znode → Bool
is_leaf (LogEntry i) = true
is_leaf (Block p d) = true
is_leaf (OrderOf k) = true
is_leaf (Lock p n) = true
is_leaf (MutationNode k) = true
is_leaf Status = true
is_leaf LastPart = true
is_leaf (LogPointer r) = true
is_leaf (IsActive r) = true
is_leaf x = false

-- the nodes with this one
abbrev pub with_state : Znode → ZnodeState → ZnodeStates → ZnodeStates
with_state x state states y = cond (same_znode y x) (Some state) (states y)

-- the nodes without this one
abbrev pub without_state : Znode → ZnodeStates → ZnodeStates
without_state x states y = cond (same_znode y x) None (states y)

-- the owner is this session
abbrev pub is_held_by : ℕ → Option ZnodeState → Bool
is_held_by s None = false
is_held_by s (Some state) = is_session s state.owner

-- the nodes without the ephemeral ones of a session
abbrev pub without_held : ℕ → ZnodeStates → ZnodeStates
without_held s states y = cond (not (is_held_by s (states y))) (states y) None

-- bounds on versions, by what the nodes stand for
abbrev pub Limits : Type 0
Limits = Znode → ℕ

-- the bounds with one more at this node
abbrev pub raised : Znode → Limits → Limits
raised x limits y = cond (same_znode y x) (suc (limits x)) (limits y)

-- the path is of a node that a table may have
pub record IsOfZnode (q : Names) : Type 0 where
  pub znode : Znode
  pub is_znode : IsZnode znode
  pub is : q ≡ znode_path znode

-- the version is at most the bound
abbrev pub IsWithin : Option Node → ℕ → Type 0
IsWithin None limit = Unit {0}
IsWithin (Some n) limit = n.version ≤ limit

-- the root is there and may have nodes below it
abbrev pub IsRoot : Option Node → Type 0
IsRoot None = ⊥
IsRoot (Some n) = n.owner ≡ None

-- the nodes of the tree are exactly these
pub record HasZnodes (t : TreeView) (states : ZnodeStates) (limits : Limits) : Type 0 where
  pub root : IsRoot (node_at t [])
  pub nodes : (x : Znode) → IsZnode x → option_map state_of (node_at t (znode_path x)) ≡ states x
  pub versions : (x : Znode) → IsZnode x → IsWithin (node_at t (znode_path x)) (limits x)
  pub only : (q : Names) → is_some (node_at t q) ≡ true → (q ≡ []) ⊎ IsOfZnode q

-- the ops can be done one after the other, and the nodes are these then
pub record Makes (t : TreeView) (ops : List Op) (states : ZnodeStates) (limits : Limits) : Type 0 where
  pub none_refused : (i : ℕ) → first_refusal t ops i ≡ None
  pub nodes : HasZnodes (after_all t ops) states limits
