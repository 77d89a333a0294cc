use Rattle.std.proofs.Common.{◌∙◌, sym, ap}
use Rattle.std.specs.Option.{unwrap_or}
use Rattle.std.proofs.lemmas.Option.{none-some}
use Rattle.rmt_tree.specs.Ops.{after_all, first_refusal}
use Rattle.rmt_table_model.specs.Nodes.{take_ops}
use Rattle.rmt_inserts.proofs.LimitLemmas.{number-or}
use Rattle.rmt_inserts.proofs.TakeLemmas.{take-fine, refused-as}
use Rattle.rmt_inserts.proofs.number.take_number.Goals as goal

pub returns-in-Some-clause-refused : goal.returns-in-Some-clause-refused
returns-in-Some-clause-refused c = λ next holders has.
    sym (c.in_ok-limit.ensures next holders c.args.partition has (c.in_ok-next.ensures next holders has)) ∙ c.in-Some.is

pub returns-in-Ok-clause-number : goal.returns-in-Ok-clause-number
returns-in-Ok-clause-number c = λ next holders has.
    c.unwrap_or-number.ensures ∙ ap (λ o. unwrap_or o 0) (c.in_ok-next.ensures next holders has) ∙ number-or next c.args.partition has.nexts

pub returns-in-Ok-clause-all : goal.returns-in-Ok-clause-all
returns-in-Ok-clause-all c = λ next holders has.
    sym (c.in_ok-limit.ensures next holders c.args.partition has (c.in_ok-next.ensures next holders has)) ∙ c.in_default.is

pub returns-in-Ok-clause-ok : goal.returns-in-Ok-clause-ok
returns-in-Ok-clause-ok c = λ next holders has.
    c.in-Ok.ensures.ok ∙ ap (after_all c.args.tree.now) (c.deref.ensures.value ∙ c.in_ok-ops.ensures ∙ ap (take_ops c.args.partition c.args.session.now.number) (c.in_ok-next.ensures next holders has))

-- the node above the partitions is there, and the number and its lock are new
pub unreachable-requires : goal.unreachable-requires
unreachable-requires c =
    let r = c.requires.numbers in
    let limit = sym (c.in_ok-limit.ensures r.0 r.1 c.args.partition r.2 (c.in_ok-next.ensures r.0 r.1 r.2)) ∙ c.in_default.is in
    let fine = take-fine c.args.tree.now r.0 r.1 r.2 c.args.partition c.is_partition.ensures c.args.session.now.number c.requires.open limit 0 in
    let ops = c.deref.ensures.value ∙ c.in_ok-ops.ensures ∙ ap (take_ops c.args.partition c.args.session.now.number) (c.in_ok-next.ensures r.0 r.1 r.2) in
    none-some _ (sym (ap (λ os. first_refusal c.args.tree.now os 0) ops ∙ fine) ∙ refused-as _ _ _ _ c.in-Err-Refused.field-0-is c.in-Err-Refused.ensures.refused)
