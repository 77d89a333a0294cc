use Rattle.std.proofs.Common.{◌++◌, ◌∷◌, [], ap, sym, List, arith, ◌∙◌}
use Rattle.std.proofs.lemmas.List.{append_assoc}
use Rattle.rmt_tree.specs.declared.op.Op.{Op}
use Rattle.rmt_table_model.specs.Nodes.{forget_ops}
use Rattle.rmt_inserts.proofs.DropLemmas.{forget-step, forget-whole, one-there}
use Rattle.rmt_inserts.proofs.drops.without_dropped.Goals as goal

pub kept-preserved : goal.kept-preserved
kept-preserved c =
    let there = one-there c.args.window.now.placed c.kept.i (let within = c.kept-test.true in let all = c.len-i-end.ensures in omega (arith, within, all)) in
    c.in_ok-all.ensures there.0 there.1
    ∙ ap (λ (xs : List Op). xs ++ forget_ops c.args.partition c.args.below (there.0 ∷ [])) c.kept.invariant
    ∙ append_assoc c.args.ops.items _ _
    ∙ ap (λ (xs : List Op). c.args.ops.items ++ xs) (sym (forget-step c.args.partition c.args.below c.args.window.now.placed c.kept.i there.0 there.1))

pub returns : goal.returns
returns c =
    c.kept.invariant ∙ ap (λ (xs : List Op). c.args.ops.items ++ xs) (forget-whole c.args.partition c.args.below c.args.window.now.placed c.kept.i (let past = c.kept-test.false in let all = c.len-i-end.ensures in omega (arith, past, all)))
