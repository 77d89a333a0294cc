-- What a multi makes of a table in its tree.
-- ZooKeeper's Java API, "ZooKeeper.multi": all of the operations are done, or none. That each call of a table is one multi is
-- this program's own.
use Rattle.std.specs.Prelude.{ℕ, List}
use Rattle.rmt_entries.specs.declared.entry.Entry.{Entry}
use Rattle.rmt_tree.specs.Trees.{TreeView}
use Rattle.rmt_tree.specs.Ops.{after_all}
use Rattle.rmt_tree.specs.declared.op.Op.{Op}
use Rattle.rmt_znodes.specs.ZnodeStates.{Makes}
use Rattle.rmt_table_model.specs.Tables.{TableView}
use Rattle.rmt_table_model.specs.Nodes.{expected, version_limits, IsTable}

-- none of the ops is refused, and the tree after them is that of this table
pub record Steps (bytes : Entry → List ℕ) (t : TreeView) (ops : List Op) (w : TableView) : Type 0 where
  pub makes : Makes t ops (expected bytes w) (version_limits w)
  pub table : IsTable bytes (after_all t ops) w
