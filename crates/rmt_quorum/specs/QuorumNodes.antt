-- What the nodes of a tree have of a table's quorum, whatever else it has.
-- ClickHouse documentation, Data Replication: insert_quorum. The nodes of a quorum are as in ClickHouse, their text is this
-- program's own.
use Rattle.std.specs.Prelude.{ℕ, suc, ◌<◌, ◌^◌, cond, nat_eq, List, [], ◌∷◌, length, IfSome}
use Rattle.std.specs.Option.{option_map}
use Rattle.rmt_names.specs.Names.{IsName}
use Rattle.rmt_names.specs.Texts.{text_of}
use Rattle.rmt_tree.specs.Trees.{TreeView}
use Rattle.rmt_znodes.specs.declared.znode.Znode.TheVariants.{Status, LastPart}
use Rattle.rmt_znodes.specs.ZnodeStates.{ZnodeStates, Limits, HasZnodes}
use Rattle.rmt_model.specs.Quorum.{Pending, Quorum}
use Rattle.rmt_model.specs.Words.{Each}
use Rattle.rmt_table_model.specs.Nodes.{plain, status_text}

-- the nodes with those of a quorum in place of their own
abbrev pub quorum_states : Quorum → ZnodeStates → ZnodeStates
quorum_states q states Status = option_map (λ p. plain (status_text p)) q.pending
quorum_states q states LastPart = option_map (λ a. plain (text_of a)) q.last
quorum_states q states y = states y

-- the part has a name, and its numbers have their width
pub record IsWritable (p : Pending) : Type 0 where
  pub part : IsName p.part
  pub need : p.need < 2 ^ 32
  pub noted : Each (λ r. r < 2 ^ 32) p.noted
  pub few : length p.noted < 2 ^ 32

-- the nodes of this quorum are there
pub record HasQuorum (t : TreeView) (q : Quorum) : Type 0 where
  pub states : ZnodeStates
  pub limits : Limits
  pub nodes : HasZnodes t (quorum_states q states) limits
  pub pending : IfSome q.pending IsWritable
  pub last : IfSome q.last IsName

-- ---- what only private functions cite

-- how many of the bytes are spaces
abbrev pub spaces : List ℕ → ℕ
spaces [] = 0
spaces (b ∷ bytes) = cond (nat_eq b 32) (suc (spaces bytes)) (spaces bytes)
