use Rattle.std.proofs.Common.{◌++◌, sym, ap, ◌∙◌}
use Rattle.rmt_names.proofs.DecimalLemmas.{decimal-zero}
use Rattle.rmt_table.proofs.Laid.{then-two, replica-is}
use Rattle.rmt_table.proofs.layout.push_replica.Goals as goal

pub returns : goal.returns
returns c =
    then-two _ _ _ _ _ c.in_ok-push_empty.ensures c.in_ok-push.ensures.items
    ∙ ap (λ xs. c.args.ops.now.items ++ xs) (replica-is c.args.replica _ c.in_ok-made.made c.requires.first (c.in_ok-zero.ensures.items ∙ sym decimal-zero) c.in_ok-made.ensures)
