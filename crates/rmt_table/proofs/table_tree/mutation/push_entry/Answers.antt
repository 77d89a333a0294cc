use Rattle.std.proofs.Common.{List, ℕ, false, None, ap, ◌∙◌}
use Rattle.rmt_paths.specs.Paths.{Names}
use Rattle.rmt_tree.specs.declared.op.Op.TheVariants as op
use Rattle.rmt_znodes.specs.declared.znode.Znode.TheVariants.{MutationNode}
use Rattle.rmt_znodes.specs.Znodes.{znode_path}
use Rattle.rmt_table.proofs.Mutations.{two-more}
use Rattle.rmt_table.proofs.table_tree.mutation.push_entry.Goals as goal

pub returns : goal.returns
returns c =
    two-more c.args.ops.now.items c.push.new.self.items c.push-2.new.self.items _ _ _ _ c.in_ok-push.ensures.items c.in_ok-push-2.ensures.items
    (ap (λ (path : Names). op.Create path c.in_ok-value.value false None) c.in_ok-path.ensures.path ∙ ap (λ (value : List ℕ). op.Create (znode_path (MutationNode c.args.id)) value false None) c.in_ok-value.ensures)
    c.in_ok-entry_op.ensures
