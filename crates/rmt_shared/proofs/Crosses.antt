-- Which types may be handed to another thread, and which lent to several, lowest first. Lemmas on structs without a model
-- and on enums aren't taken at a field, so that those are searched through whole.
use denote.RattleType.{RattleType}
use Rattle.std.proofs.sync.ledger.Book.TheSendSync.{the_send as book_send}
use Rattle.rmt_shared.specs.declared.naming.Naming.{Ghosts}
use Rattle.rmt_shared.specs.contracts.shared_tables.SharedTables as shared_tables
use Rattle.rmt_shared.specs.contracts.shared_replica.SharedReplica as shared_replica
use denote.RattleType.{RattleType}
use denote.Param.Send.{IsSend, IsSync, sendable}
use Rattle.std.proofs.Crossing.{crosses}
use Rattle.std.proofs.MapsCrossing.{crosses as maps}
use Rattle.once_cell.proofs.race.once_box.OnceBox.TheSendSync.{the_send as cell_send, the_sync as cell_sync}
use Rattle.rmt_row.proofs.shown.Shown.TheSendSync.{the_send as shown_send, the_sync as shown_sync}
use Rattle.rmt_values.proofs.checked.Checked.TheLaws.TheKnot.{send-Checked, sync-Checked}
use Rattle.rmt_list.specs.contracts.list.List as list
use Rattle.rmt_values.specs.contracts.blob.Blob as blob
use Rattle.rmt_values.specs.contracts.schema.Schema as schema
use Rattle.rmt_columns.specs.contracts.rows.Rows as rows
use Rattle.rmt_names.specs.contracts.name.PartName as name
use Rattle.rmt_block.specs.contracts.block.Block as block
use Rattle.rmt_granules.specs.contracts.part_data.PartData as body
use Rattle.rmt_entries.specs.contracts.entry.Entry as entry
use Rattle.rmt_row.specs.contracts.seen.Seen as seen
use Rattle.rmt_row.specs.contracts.row.Row as row
use Rattle.rmt_queue.specs.contracts.queue.Queue as queue
use Rattle.rmt_nameset.specs.contracts.name_set.NameSet as names
use Rattle.rmt_history.specs.contracts.copy.LogCopy as copy
use Rattle.rmt_history.specs.contracts.table_log.TableLog as log
use Rattle.rmt_partitions.specs.contracts.partitions.Partitions as partitions
use Rattle.rmt_paths.specs.contracts.segment.Segment as segment
use Rattle.rmt_paths.specs.contracts.place.Place as place
use Rattle.rmt_tree.specs.contracts.znode.Znode as znode
use Rattle.rmt_tree.specs.contracts.slot_map.Slots as slots
use Rattle.rmt_tree.specs.contracts.tree.Tree as tree
use Rattle.rmt_inserts.specs.contracts.window.Window as window
use Rattle.rmt_quorum.specs.contracts.quorum_state.QuorumState as quorum
use Rattle.rmt_table.specs.contracts.table_tree.TableTree as table
use Rattle.rmt_part.specs.contracts.accepted.Accepted as accepted
use Rattle.rmt_part.specs.contracts.part.Part as part
use Rattle.rmt_partset.specs.contracts.part_set.PartSet as parts
use Rattle.rmt_partset.specs.contracts.snapshot.Snapshot as snapshot
use Rattle.rmt_replica.specs.contracts.staged.Staging as staging
use Rattle.rmt_replica.specs.contracts.replica.Replica as replica
use Rattle.rmt_replica.specs.contracts.supply.Supply as supply

-- ---- values, blocks and the data of parts

pub list_send : (R : RattleType) → IsSend R → IsSend (list.the_row R)
list_send R r = search (sendable, crosses) depth 30

pub list_sync : (R : RattleType) → IsSync R → IsSync (list.the_row R)
list_sync R r = search (sendable, crosses) depth 30

pub blob_send : IsSend blob.the_row
blob_send = search (sendable, crosses) depth 30

pub blob_sync : IsSync blob.the_row
blob_sync = search (sendable, crosses) depth 30

pub schema_send : IsSend schema.the_row
schema_send = search (sendable, crosses) depth 30

pub schema_sync : IsSync schema.the_row
schema_sync = search (sendable, crosses) depth 30

pub rows_send : IsSend rows.the_row
rows_send = search (sendable, crosses) depth 30

pub rows_sync : IsSync rows.the_row
rows_sync = search (sendable, crosses) depth 30

pub name_send : IsSend name.the_row
name_send = search sendable depth 30

pub name_sync : IsSync name.the_row
name_sync = search sendable depth 30

pub block_send : IsSend block.the_row
block_send = search (sendable, crosses, rows_send) depth 30

pub block_sync : IsSync block.the_row
block_sync = search (sendable, crosses, rows_sync) depth 30

pub data_send : IsSend body.the_row
data_send = search (sendable, crosses, rows_send) depth 30

pub data_sync : IsSync body.the_row
data_sync = search (sendable, crosses, rows_sync) depth 30

-- ---- entries, their cells and tokens, and copies of the log

pub entry_send : IsSend entry.the_row
entry_send = search (sendable, crosses, list_send, name_send, blob_send, send-Checked) depth 100 fits 50000

pub entry_sync : IsSync entry.the_row
entry_sync = search (sendable, crosses, list_sync, name_sync, blob_sync, sync-Checked) depth 100 fits 50000

pub seen_send : IsSend (seen.the_row entry.the_row)
seen_send = search (sendable, crosses, shown_send, entry_send, entry_sync) depth 30

pub seen_sync : IsSync (seen.the_row entry.the_row)
seen_sync = search (sendable, crosses, shown_sync, entry_send, entry_sync) depth 30

pub row_send : IsSend (row.the_row entry.the_row)
row_send = search (sendable, crosses, cell_send, entry_send, entry_sync) depth 30

pub row_sync : IsSync (row.the_row entry.the_row)
row_sync = search (sendable, crosses, cell_sync, entry_send, entry_sync) depth 30

pub queue_send : IsSend queue.the_row
queue_send = search (sendable, crosses) depth 30

pub names_send : IsSend names.the_row
names_send = search (sendable, crosses) depth 30

pub names_sync : IsSync names.the_row
names_sync = search (sendable, crosses) depth 30

pub copy_send : IsSend copy.the_row
copy_send = search (sendable, crosses, maps, seen_send, seen_sync, schema_send, schema_sync, names_send) depth 40

pub copy_sync : IsSync copy.the_row
copy_sync = search (sendable, crosses, maps, seen_send, seen_sync, schema_send, schema_sync, names_sync) depth 40

pub log_send : IsSend log.the_row
log_send = search (sendable, crosses, list_send, list_sync, seen_send, seen_sync) depth 40

-- ---- the coordination tree, and a table over it

pub segment_send : IsSend segment.the_row
segment_send = search (sendable, crosses) depth 30

pub place_send : IsSend place.the_row
place_send = search (sendable, crosses, segment_send) depth 30

pub znode_send : IsSend znode.the_row
znode_send = search (sendable, crosses, blob_send, blob_sync) depth 30

pub slots_send : IsSend slots.the_row
slots_send = search (sendable, crosses, maps, segment_send, znode_send) depth 60 fits 20000

pub tree_send : IsSend tree.the_row
tree_send = search (sendable, crosses, maps, place_send, slots_send) depth 40

pub partitions_send : IsSend partitions.the_row
partitions_send = search (sendable, crosses) depth 30

pub window_send : IsSend window.the_row
window_send = search (sendable, crosses, maps, name_send) depth 40

pub quorum_send : IsSend quorum.the_row
quorum_send = search (sendable, crosses, name_send) depth 40

pub table_send : IsSend table.the_row
table_send = search (sendable, crosses, schema_send, schema_sync, row_send, log_send, partitions_send, quorum_send, window_send, tree_send) depth 40

-- ---- parts, replicas, and what is read of them

pub accepted_send : IsSend accepted.the_row
accepted_send = search (sendable, crosses, seen_send, block_send, block_sync) depth 30

pub accepted_sync : IsSync accepted.the_row
accepted_sync = search (sendable, crosses, seen_sync, block_send, block_sync) depth 30

pub part_send : IsSend part.the_row
part_send = search (sendable, crosses, list_send, list_sync, seen_send, seen_sync, schema_send, schema_sync, name_send, data_send, data_sync, accepted_send) depth 40

pub part_sync : IsSync part.the_row
part_sync = search (sendable, crosses, list_send, list_sync, seen_send, seen_sync, schema_send, schema_sync, name_sync, data_send, data_sync, accepted_sync) depth 40

pub parts_send : IsSend parts.the_row
parts_send = search (sendable, crosses, part_send, part_sync) depth 30

pub snapshot_send : IsSend snapshot.the_row
snapshot_send = search (sendable, crosses, name_send, data_send, data_sync) depth 30

pub snapshot_sync : IsSync snapshot.the_row
snapshot_sync = search (sendable, crosses, name_sync, data_send, data_sync) depth 30

pub staging_send : IsSend staging.the_row
staging_send = search (sendable, crosses, maps, block_send, block_sync) depth 30

pub replica_send : IsSend replica.the_row
replica_send = search (sendable, crosses, name_send, copy_send, queue_send, parts_send, staging_send) depth 40

pub supply_send : IsSend supply.the_row
supply_send = search (sendable, crosses, part_send, part_sync) depth 30

-- ---- what lies under locks

pub shared_tables_send : (N : RattleType) (g : Ghosts N.Denot) → IsSend (shared_tables.the_row N g)
shared_tables_send N g = search (sendable, crosses, table_send, book_send) depth 30

pub shared_replica_send : (N : RattleType) (g : Ghosts N.Denot) → IsSend (shared_replica.the_row N g)
shared_replica_send N g = search (sendable, crosses, replica_send) depth 30
