use Rattle.std.proofs.Common.{◌≡◌, ◌+◌, ◌∙◌, arith, length, ap}
use Rattle.std.specs.declared.option.Option.TheVariants.{Some}
use Rattle.rmt_events.specs.Sound.{IsSoundTable}
use Rattle.rmt_events.specs.Views.{Table}
use Rattle.rmt_model.specs.Choices.{last_pending}
use Rattle.rmt_statement_model.proofs.PendingLaws.{pending-mutable}
use Rattle.rmt_acts.proofs.WaitActs.{pending-told}
use Rattle.rmt_acts.proofs.waiting.settle_part.Goals as goal
use Rattle.rmt_acts.proofs.waiting.settle_part.Goals.{In-Some}

-- what is pending for the part
told : (c : In-Some) → last_pending c.args.cluster.now.table.log c.args.part (c.args.place + 1) ≡ Some c.in-Some.last
told c = pending-told c.args.cluster.now c.args.replica c.args.part (c.args.place + 1) c.copy.result.now.log c.last_pending.result (Some c.in-Some.last) c.requires.whole c.copy.ensures.log c.last_pending.ensures c.in-Some.is

pub overflow_cast-last : goal.overflow_cast-last
overflow_cast-last c =
    let m = (pending-mutable c.args.cluster.now.table.schema c.args.cluster.now.table.log (c.args.place + 1) c.args.part c.in-Some.last (IsSoundTable.lawful c.drained_replicas_agree.ensures.whole.table) c.requires.is_live (told (goal.at.overflow_cast-last c).In-Some)).1 in
    let e : length c.tree.result.now.log ≡ length c.args.cluster.now.table.log = ap (λ x. length x.log) c.tree.ensures ∙ ap (λ (x : Table). length x.log) c.state.ensures.table in
    let few = c.no_limit_is_passed.ensures.entries in
    let b = c.requires.below in
    grind (arith, m, e, few, b)

pub mutate_part-requires-clause-mutable : goal.mutate_part-requires-clause-mutable
mutate_part-requires-clause-mutable c =
    (pending-mutable c.args.cluster.now.table.schema c.args.cluster.now.table.log (c.args.place + 1) c.args.part c.in-Some.last (IsSoundTable.lawful c.drained_replicas_agree.ensures.whole.table) c.requires.is_live (told (goal.at.mutate_part-requires-clause-mutable c).In-Some)).0
