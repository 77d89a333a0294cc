use Rattle.std.proofs.Common.{◌∙◌, ap}
use Rattle.rmt_values.specs.Rows.{Shape}
use Rattle.rmt_table.proofs.Committed.{ids-of}
use Rattle.rmt_table.specs.contracts.table_tree.TableTree.{the_view}
use Rattle.rmt_table.proofs.table_tree.TableTree.id_ops.Goals as goal

pub returns : goal.returns
returns c =
    ids-of (the_view c.self.inside) c.args.self.now c.self.view_is c.self.invariant c.args.lock.now c.block_name-part.result c.block_name-part.ensures
    c.window-window.result (c.window-window.ensures ∙ ap (λ (s : Shape). s.window) c.deref.ensures) c.in_ok-keep.keep.items c.in_ok-keep.ensures
