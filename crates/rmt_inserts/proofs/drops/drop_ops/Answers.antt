use Rattle.rmt_inserts.proofs.DropLemmas.{drops-both}
use Rattle.rmt_inserts.proofs.drops.drop_ops.Goals as goal

pub returns : goal.returns
returns c = λ next holders has.
    drops-both c.without_dropped.result (λ w. w.items) holders c.args.window.now.placed c.args.partition c.args.below c.in_ok-ops.ops.items (c.in_ok-ops.ensures next holders has) c.without_dropped.ensures
