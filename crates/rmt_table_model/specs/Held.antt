-- What a table keeps in memory beside its tree, and the table that both are.
-- No public source: what is kept in memory is this program's own.
use Rattle.std.specs.Prelude.{ℕ, ◌^◌, ◌&&◌, Bool, true, cond, nat_lt, List}
use Rattle.std.specs.declared.option.Option.{Option}
use Rattle.std.specs.declared.option.Option.TheVariants.{Some, None}
use Rattle.rmt_values.specs.Rows.{Shape}
use Rattle.rmt_entries.specs.declared.entry.Entry.{Entry}
use Rattle.rmt_tree.specs.Trees.{Node, TreeView, node_at}
use Rattle.rmt_znodes.specs.declared.znode.Znode.TheVariants.{Lock}
use Rattle.rmt_znodes.specs.Znodes.{znode_path}
use Rattle.rmt_table_model.specs.Numbers.{Nexts, Holders}
use Rattle.rmt_model.specs.Quorum.{Quorum}
use Rattle.rmt_table_model.specs.Tables.{TableView}
use Rattle.rmt_table_model.specs.Nodes.{IsTable}

-- the partition has its width
abbrev pub fits : Option ℕ → Bool
fits None = true
fits (Some p) = nat_lt p (2 ^ 64)

-- the owner of a node that may be there
abbrev pub owner_of : Option Node → Option ℕ
owner_of None = None
owner_of (Some n) = n.owner

-- the locks as the tree has them
abbrev pub holders_in : TreeView → Holders
holders_in t p n = cond (fits p && nat_lt n (2 ^ 32)) (owner_of (node_at t (znode_path (Lock p n)))) None

-- what is kept: the schema, the names of the cells of the log's row, the log, the newest entry first, the next numbers, the
-- sessions, the lengths pulled, the quorum, the values, and the tree
pub record Held : Type 0 where
  pub schema : Shape
  pub row : List ℕ
  pub log : List Entry
  pub next : Nexts
  pub sessions : List (Option ℕ)
  pub pulled : List ℕ
  pub quorum : Quorum
  pub values : ℕ
  pub tree : TreeView

-- the table that it is
abbrev pub table_of : Held → TableView
table_of h = record {
  schema = h.schema;
  log = h.log;
  next = h.next;
  holders = holders_in h.tree;
  sessions = h.sessions;
  pulled = h.pulled;
  quorum = h.quorum;
  values = h.values;
}

-- what is so of it at each moment
abbrev pub IsHeld : (Entry → List ℕ) → Held → Type 0
IsHeld bytes h = IsTable bytes h.tree (table_of h)
