use Rattle.std.proofs.Common.{◌-◌, ◌∙◌, ap, map, subst, sym, arith}
use Rattle.rmt_replica.specs.SeenReplica.{shown}
use Rattle.rmt_state.specs.States.{AreNumbered}
use Rattle.rmt_statement_model.proofs.SwitchLaws.{fetching-told}
use Rattle.rmt_cluster.proofs.ReadingLemmas.{only-one}
use Rattle.rmt_acts.proofs.switching.may_fetch.Goals as goal

pub returns : goal.returns
returns c =
    let s = c.args.cluster.now in
    let tree = c.state-state.result.now.tree in
    let from = c.from.ensures in
    let here = sym c.state-state.ensures.replicas ∙ sym (ap (map shown) c.replicas.ensures) in
    let numbered = subst (AreNumbered tree 1) (sym c.replicas.ensures) c.sound.ensures.state.numbered in
    let one = only-one s tree c.replicas.result.now c.args.replica (c.from.result - 1) c.index-replicas-from.result here numbered c.requires (omega (arith, from)) c.index-replicas-from.is in
    c.fetches.ensures ∙ sym (fetching-told s c.args.replica (shown c.index-replicas-from.result) c.drained_replicas_agree.ensures.whole one.numbered)
