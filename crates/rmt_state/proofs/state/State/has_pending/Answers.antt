use Rattle.std.proofs.Common.{◌≡◌, ◌+◌, ◌-◌, ◌∙◌, false, map, arith, subst, sym, ap}
use Rattle.std.specs.Prelude.{slice_get}
use Rattle.std.specs.Arc.{arc_value}
use Rattle.std.specs.declared.option.Option.TheVariants.{Some}
use Rattle.std.proofs.lemmas.Grind.{common_steps}
use Rattle.std.proofs.lemmas.Option.{gets}
use Rattle.rmt_replica.specs.SeenReplica.{shown}
use Rattle.rmt_events.specs.Draws.{pending_part_at}
use Rattle.rmt_state.specs.States.{StateView}
use Rattle.rmt_state.proofs.PendingLemmas.{none-waits, found-told, pending-at}
use Rattle.rmt_state.proofs.state.State.has_pending.Goals as goal

pub returns-in_default : goal.returns-in_default
returns-in_default c =
    let i = c.self.inside in
    subst (λ (v : StateView). false ≡ pending_part_at v.tree.quorum.pending (map shown v.replicas) c.args.replica) c.self.view_is
    (none-waits i.replicas.items c.args.replica i.tree.quorum.pending c.pending_part.result c.pending_part.ensures c.in_default.not-Some)

pub returns : goal.returns
returns c =
    let i = c.self.inside in
    let there : slice_get i.replicas.items (c.from.result - 1) ≡ Some c.index-worker.result.now = grind (arith, common_steps, gets) in
    let f = c.requires.here.first in
    let g = c.from.ensures in
    let n : 1 + (c.from.result - 1) ≡ c.args.replica = omega (arith, f, g) in
    let told = found-told (λ p. arc_value p.now) c.index-worker.result.now i.tree.quorum.pending c.in-Some.part c.covering.result c.is_some.result (sym c.in-Some.is ∙ c.pending_part.ensures) c.covering.ensures c.is_some.ensures in
    subst (λ (v : StateView). c.is_some.result ≡ pending_part_at v.tree.quorum.pending (map shown v.replicas) c.args.replica) c.self.view_is
    (told ∙ (sym (pending-at i.tree 1 i.replicas.items (c.from.result - 1) c.index-worker.result.now i.tree.quorum.pending c.self.invariant.numbered there)
    ∙ ap (λ m. pending_part_at i.tree.quorum.pending (map shown i.replicas.items) m) n))
