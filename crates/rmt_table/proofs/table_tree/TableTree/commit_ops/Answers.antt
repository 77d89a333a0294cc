use Rattle.rmt_table.proofs.Committed.{ops-of}
use Rattle.rmt_table.proofs.table_tree.TableTree.commit_ops.Goals as goal

pub returns : goal.returns
returns c =
    ops-of c.args.lock.now c.args.need c.args.path c.requires.path c.in_ok-ops.ops.items c.in_ok-ops.ensures c.in_ok-keep.keep.items _ c.in_ok-keep.ensures c.block_name.result c.block_name.ensures c.in_ok-open.open.items c.in_ok-open.ensures
    c.append.new.self.items c.in_ok-append.ensures.items c.append-2.new.self.items c.in_ok-append-2.ensures.items
