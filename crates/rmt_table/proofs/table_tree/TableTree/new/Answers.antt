use Rattle.std.proofs.Common.{ℕ, List, Option, None, length, ap, ◌∙◌}
use Rattle.std.proofs.lemmas.List.{length-replicate}
use Rattle.std.specs.Arc.{arc_value}
use Rattle.rmt_table.proofs.NewTable.{resized, new-fine, new-tree, new-kept, new-shown}
use Rattle.rmt_table.proofs.table_tree.TableTree.new.Goals as goal

pub invariant_of-result : goal.invariant_of-result
invariant_of-result c =
    new-kept (arc_value c.args.schema) c.args.replicas c.requires.few c.multi.new.tree c.deref.result.now (c.deref.ensures.value ∙ c.in_ok-ops.ensures) c.new-tree.result c.new-tree.ensures c.in_ok-multi.ensures.ok
    c.in_ok-log.log.row c.in_ok-log.ensures.cells c.in_ok-log.log.tokens c.new-2.result.numbers c.resize.new.self.items c.resize-2.new.self.items c.in_ok-log.ensures.none c.new-2.ensures
    (resized c.resize.new.self.items c.new-sessions.result.items c.from-count.result _ c.args.replicas None c.new-sessions.ensures.items c.new-sessions.ensures.len c.from-count.ensures c.in_ok-resize.ensures.items)
    (resized c.resize-2.new.self.items c.new-pulled.result.items c.from-count.result _ c.args.replicas 0 c.new-pulled.ensures.items c.new-pulled.ensures.len c.from-count.ensures c.in_ok-resize-2.ensures.items)
    c.new-3.result c.new-3.ensures _ c.new-4.ensures.count _ c.new-4.ensures.placed

pub returns : goal.returns
returns c = record {
  table = new-shown (arc_value c.args.schema) c.args.replicas c.requires.few c.multi.new.tree c.deref.result.now (c.deref.ensures.value ∙ c.in_ok-ops.ensures) c.new-tree.result c.new-tree.ensures c.in_ok-multi.ensures.ok
      c.in_ok-log.log.row c.in_ok-log.ensures.cells c.in_ok-log.log.tokens c.new-2.result.numbers c.resize.new.self.items c.resize-2.new.self.items c.in_ok-log.ensures.none c.new-2.ensures
      (resized c.resize.new.self.items c.new-sessions.result.items c.from-count.result _ c.args.replicas None c.new-sessions.ensures.items c.new-sessions.ensures.len c.from-count.ensures c.in_ok-resize.ensures.items)
      (resized c.resize-2.new.self.items c.new-pulled.result.items c.from-count.result _ c.args.replicas 0 c.new-pulled.ensures.items c.new-pulled.ensures.len c.from-count.ensures c.in_ok-resize-2.ensures.items) c.new-3.result c.new-3.ensures;
  row = c.in_ok-log.ensures.cells;
  replicas = ap (λ (xs : List (Option ℕ)). length xs) (resized c.resize.new.self.items c.new-sessions.result.items c.from-count.result _ c.args.replicas None c.new-sessions.ensures.items c.new-sessions.ensures.len c.from-count.ensures c.in_ok-resize.ensures.items) ∙ length-replicate c.args.replicas None;
  ops = new-tree (arc_value c.args.schema) c.args.replicas c.requires.few c.multi.new.tree c.deref.result.now (c.deref.ensures.value ∙ c.in_ok-ops.ensures) c.new-tree.result c.new-tree.ensures c.in_ok-multi.ensures.ok;
}

pub multi-requires : goal.multi-requires
multi-requires c = record { fine = new-fine (arc_value c.args.schema) c.args.replicas c.requires.few c.deref.result.now (c.deref.ensures.value ∙ c.in_ok-ops.ensures) c.new-tree.result c.new-tree.ensures }
