use Rattle.std.proofs.Common.{List, None, get_or, ap, ◌++◌, ◌∙◌, sym}
use Rattle.rmt_tree.specs.declared.op.Op.{Op}
use Rattle.rmt_table_model.specs.Nodes.{number_ops}
use Rattle.rmt_table.proofs.Mutations.{numbers-more, numbers-all}
use Rattle.rmt_table.proofs.table_tree.mutation.numbers_ops.Goals as goal

pub pairs-init : goal.pairs-init
pairs-init c = c.new-ops.ensures.items

pub pairs-preserved : goal.pairs-preserved
pairs-preserved c =
    c.in_ok-push_number.ensures ∙ ap (λ (ops : List Op). ops ++ number_ops (get_or c.args.numbers.now c.pairs.pair-index (None, 0)).0 (get_or c.args.numbers.now c.pairs.pair-index (None, 0)).1) c.pairs.invariant
    ∙ sym (numbers-more c.args.numbers.now c.pairs.pair-index (None, 0) c.pairs-test.true)

pub returns : goal.returns
returns c = c.pairs.invariant ∙ numbers-all c.args.numbers.now c.pairs.pair-index c.pairs-test.false
