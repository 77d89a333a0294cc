use Rattle.std.proofs.Common.{◌≡◌, ◌-◌, ◌∙◌, ◌↔◌, arith, sym, subst, Bool}
use Rattle.std.specs.Prelude.{slice_get, IsTrue}
use Rattle.std.specs.Arc.{arc_value}
use Rattle.std.specs.Option.{option_copied}
use Rattle.std.specs.declared.option.Option.TheVariants.{Some}
use Rattle.std.proofs.lemmas.Grind.{common_steps}
use Rattle.std.proofs.lemmas.Option.{gets}
use Rattle.rmt_replica.specs.Replicas.{IsStandingReplica}
use Rattle.rmt_state.specs.States.{StateView, HasSomeBlockAt}
use Rattle.rmt_state.proofs.StateLemmas.{some-same}
use Rattle.rmt_state.proofs.StageLemmas.{some-block, is-some-copied}
use Rattle.rmt_state.proofs.state.State.has_staged.Goals as goal

pub returns : goal.returns
returns c =
    let i = c.self.inside in
    let there : slice_get i.replicas.items (c.from-at.result - 1) ≡ Some c.index-2.result.now = grind (arith, common_steps, gets) in
    let lent : slice_get i.replicas.items (c.from-at.result - 1) ≡ Some c.index.result.now = grind (arith, common_steps, gets) in
    let t = subst IsStandingReplica (some-same c.index.result.now c.index-2.result.now (sym lent ∙ there)) c.copy-standing.ensures.standing in
    let f = c.requires.here.first in
    let e = c.from-at.ensures in
    subst (λ (v : StateView). IsTrue c.is_some.result ↔ HasSomeBlockAt v c.args.replica c.args.partition c.args.number) c.self.view_is
    (subst (λ (b : Bool). IsTrue b ↔ HasSomeBlockAt (record { tree = i.tree; replicas = i.replicas.items }) c.args.replica c.args.partition c.args.number) (is-some-copied c.staged.result ∙ sym c.is_some.ensures)
    (some-block (option_copied c.staged.result) arc_value (record { tree = i.tree; replicas = i.replicas.items }) c.args.replica (c.from-at.result - 1) c.args.number c.args.partition c.index-2.result.now c.self.invariant (omega (arith, f, e)) there t c.staged.ensures))
