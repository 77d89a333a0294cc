use Rattle.std.proofs.Common.{◌≡◌, ◌-◌, ◌&&◌, ◌∙◌, Bool, not, ap, arith, sym, subst, List}
use Rattle.std.proofs.lemmas.Grind.{common_steps}
use Rattle.std.proofs.lemmas.Option.{gets}
use Rattle.std.specs.Prelude.{slice_get}
use Rattle.std.specs.declared.option.Option.TheVariants.{Some, None}
use Rattle.rmt_replica.specs.Replicas.{ReplicaView}
use Rattle.rmt_acts.proofs.GatherActs.{asked-by, asked-none}
use Rattle.rmt_acts.proofs.gathering.is_asked.Goals as goal

pub returns-then-is_up-clause-asked : goal.returns-then-is_up-clause-asked
returns-then-is_up-clause-asked c =
    let x = c.in-Some.worker.now in
    let there : slice_get c.replicas.result.now (c.from.result - 1) ≡ Some x = grind (arith, common_steps, gets) in
    c.fetches.ensures
    ∙ (sym (ap (λ (b : Bool). b && x.fetches) (sym c.is_up.ensures ∙ c.if-is_up.true))
    ∙ sym (asked-by c.args.cluster.now c.state-state.result.now c.tree.result.now c.replicas.result.now c.pending_part.result c.args.writer c.args.other c.from.result x c.drained_replicas_agree.ensures.whole c.state-state.ensures.table c.state-state.ensures.replicas c.sound.ensures.state
    c.tree.ensures c.pending_part.ensures (c.is_none.ensures ∙ ap not c.if-is_none.false) c.replicas.ensures c.requires c.from.ensures there c.if-other-writer.false))

pub returns-else-is_up-clause-asked : goal.returns-else-is_up-clause-asked
returns-else-is_up-clause-asked c =
    let x = c.in-Some.worker.now in
    let there : slice_get c.replicas.result.now (c.from.result - 1) ≡ Some x = grind (arith, common_steps, gets) in
    c.if-is_up.false
    ∙ (sym (ap (λ (b : Bool). b && x.fetches) (sym c.is_up.ensures ∙ c.if-is_up.false))
    ∙ sym (asked-by c.args.cluster.now c.state-state.result.now c.tree.result.now c.replicas.result.now c.pending_part.result c.args.writer c.args.other c.from.result x c.drained_replicas_agree.ensures.whole c.state-state.ensures.table c.state-state.ensures.replicas c.sound.ensures.state
    c.tree.ensures c.pending_part.ensures (c.is_none.ensures ∙ ap not c.if-is_none.false) c.replicas.ensures c.requires c.from.ensures there c.if-other-writer.false))

pub returns-in-None-clause-asked : goal.returns-in-None-clause-asked
returns-in-None-clause-asked c =
    let none : slice_get c.replicas.result.now (c.from.result - 1) ≡ None = grind (arith, common_steps, gets) in
    sym (asked-none c.args.cluster.now c.state-state.result.now c.args.writer c.args.other (c.from.result - 1) c.state-state.ensures.replicas c.sound.ensures.state c.requires (ap (λ i. i - 1) c.from.ensures)
    (subst (λ (xs : List ReplicaView). slice_get xs (c.from.result - 1) ≡ None) c.replicas.ensures none))
