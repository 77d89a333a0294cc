use Rattle.std.proofs.Common.{List, ℕ, true, None, ap, ◌∙◌}
use Rattle.rmt_paths.specs.Paths.{Names}
use Rattle.rmt_tree.specs.declared.op.Op.TheVariants as op
use Rattle.rmt_znodes.specs.Znodes.{lock_path}
use Rattle.rmt_table.proofs.Mutations.{two-more}
use Rattle.rmt_table.proofs.table_tree.mutation.push_number.Goals as goal

pub returns : goal.returns
returns c =
    two-more c.args.ops.now.items c.push.new.self.items c.push-2.new.self.items _ _ _ _ c.in_ok-push.ensures.items c.in_ok-push-2.ensures.items
    (ap (λ (path : Names). op.Create path c.new-2.result true None) c.in_ok-path.ensures ∙ ap (λ (value : List ℕ). op.Create (lock_path c.args.partition) value true None) (c.new-2.ensures ∙ c.new.ensures.items))
    (ap (λ (path : Names). op.Delete path None) c.in_ok-path-2.ensures.path)
