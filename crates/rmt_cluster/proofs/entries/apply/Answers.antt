use Rattle.std.proofs.Common.{◌≡◌, ℕ, ◌-◌, ◌<◌, ◌∙◌, List, length, arith, sym, ap, subst, true}
use Rattle.std.specs.Prelude.{slice_get, IfOk, OnErr}
use Rattle.std.specs.Arc.{arc_value}
use Rattle.std.specs.declared.option.Option.TheVariants.{Some}
use Rattle.std.proofs.lemmas.Grind.{common_steps}
use Rattle.std.proofs.lemmas.Option.{gets}
use Rattle.rmt_table_model.specs.Held.{Held}
use Rattle.rmt_replica.specs.Replicas.{ReplicaView, IsStandingReplica}
use Rattle.rmt_events.specs.declared.event.Event.TheVariants as ev
use Rattle.rmt_supply.specs.PartSources.{AreOfOneTable}
use Rattle.rmt_supply.proofs.SearchLemmas.{at-one}
use Rattle.rmt_state.specs.States.{StateView, Belongs, Acts}
use Rattle.rmt_state.proofs.StateLemmas.{at-place}
use Rattle.rmt_state.proofs.AssignLemmas.{IsWorker}
use Rattle.rmt_cluster.proofs.ApplyLemmas.{apply-down, apply-past, apply-lacks, apply-stays, apply-told, one-table, suits-of-table, apply-halts, stopped-found, missing-found, ready-found}
use Rattle.rmt_cluster.proofs.entries.apply.Goals as goal

pub returns-then-not-is_up-clause-ok : goal.returns-then-not-is_up-clause-ok
returns-then-not-is_up-clause-ok c =
    let s = c.args.state.now in
    let j = c.from-at.result - 1 in
    let x = c.index-replicas-at.result in
    let found : slice_get c.replicas.result.now j ≡ Some x = grind (arith, common_steps, gets) in
    let there = subst (λ (rs : List ReplicaView). slice_get rs j ≡ Some x) c.replicas.ensures found in
    let f = c.requires.here.first in
    let e = c.from-at.ensures in
    let w : IsWorker s c.args.replica j x = record { state = c.sound.ensures.state; numbered = omega (arith, f, e); there = there } in
    apply-down s c.args.replica c.args.entry j x w (sym c.is_up.ensures ∙ c.if-not-is_up.true)

pub returns-then-i-len-clause-ok : goal.returns-then-i-len-clause-ok
returns-then-i-len-clause-ok c =
    let s = c.args.state.now in
    let j = c.from-at.result - 1 in
    let x = c.index-replicas-at.result in
    let found : slice_get c.replicas.result.now j ≡ Some x = grind (arith, common_steps, gets) in
    let there = subst (λ (rs : List ReplicaView). slice_get rs j ≡ Some x) c.replicas.ensures found in
    let f = c.requires.here.first in
    let e = c.from-at.ensures in
    let w : IsWorker s c.args.replica j x = record { state = c.sound.ensures.state; numbered = omega (arith, f, e); there = there } in
    let l = c.len.ensures.len ∙ ap length c.copy.ensures.log in
    let t = c.if-i-len.true in
    apply-past s c.args.replica c.args.entry j x w (sym c.is_up.ensures ∙ c.if-not-is_up.false) (omega (arith, l, t))

pub find-requires-clause-table : goal.find-requires-clause-table
find-requires-clause-table c =
    subst (λ (rs : List ReplicaView). AreOfOneTable rs c.args.entry) (sym c.replicas-2.ensures) (one-table c.args.state.now c.args.entry c.sound.ensures.state c.requires.accepted)

pub find-requires-clause-place : goal.find-requires-clause-place
find-requires-clause-place c =
    let s = c.args.state.now in
    let j = c.from-at.result - 1 in
    let x = c.index-replicas-at.result in
    let found : slice_get c.replicas.result.now j ≡ Some x = grind (arith, common_steps, gets) in
    let there = subst (λ (rs : List ReplicaView). slice_get rs j ≡ Some x) c.replicas.ensures found in
    let f = c.requires.here.first in
    let e = c.from-at.ensures in
    let l = c.len.ensures.len ∙ ap length c.copy.ensures.log in
    let t = c.if-i-len.false in
    let b = at-place s.tree 1 s.replicas j x c.sound.ensures.state.numbered there in
    let schema = (Belongs.copy b).schema ∙ sym (c.schema.ensures ∙ ap (λ (h : Held). h.schema) c.tree.ensures) in
    at-one c.replicas-2.result.now j x (λ r. (c.args.entry < length r.log) × (r.schema ≡ arc_value c.schema.result.now)) (subst (λ (rs : List ReplicaView). slice_get rs j ≡ Some x) (sym c.replicas-2.ensures) there)
    (omega (arith, l, t), schema)

pub returns-in-Stopped-clause-ok : goal.returns-in-Stopped-clause-ok
returns-in-Stopped-clause-ok c =
    let s = c.args.state.now in
    let j = c.from-at.result - 1 in
    let x = c.index-replicas-at.result in
    let found : slice_get c.replicas.result.now j ≡ Some x = grind (arith, common_steps, gets) in
    let there = subst (λ (rs : List ReplicaView). slice_get rs j ≡ Some x) c.replicas.ensures found in
    let f = c.requires.here.first in
    let e = c.from-at.ensures in
    let w : IsWorker s c.args.replica j x = record { state = c.sound.ensures.state; numbered = omega (arith, f, e); there = there } in
    let l = c.len.ensures.len ∙ ap length c.copy.ensures.log in
    let t = c.if-i-len.false in
    let m = stopped-found s.replicas c.replicas-2.result.now x c.args.entry c.in_ok-supply.field-0 c.replicas-2.ensures
    (c.in_ok-supply.ensures x (subst (λ (rs : List ReplicaView). slice_get rs j ≡ Some x) (sym c.replicas-2.ensures) there)) c.in-Stopped.is in
    apply-halts s c.args.replica c.args.entry j x w (sym c.is_up.ensures ∙ c.if-not-is_up.false) (omega (arith, l, t)) m

pub returns-in-Missing-clause-ok : goal.returns-in-Missing-clause-ok
returns-in-Missing-clause-ok c =
    let s = c.args.state.now in
    let j = c.from-at.result - 1 in
    let x = c.index-replicas-at.result in
    let found : slice_get c.replicas.result.now j ≡ Some x = grind (arith, common_steps, gets) in
    let there = subst (λ (rs : List ReplicaView). slice_get rs j ≡ Some x) c.replicas.ensures found in
    let f = c.requires.here.first in
    let e = c.from-at.ensures in
    let w : IsWorker s c.args.replica j x = record { state = c.sound.ensures.state; numbered = omega (arith, f, e); there = there } in
    let l = c.len.ensures.len ∙ ap length c.copy.ensures.log in
    let t = c.if-i-len.false in
    let m = missing-found s.replicas c.replicas-2.result.now x c.args.entry c.in-Missing.part c.in_ok-supply.field-0 c.replicas-2.ensures
    (c.in_ok-supply.ensures x (subst (λ (rs : List ReplicaView). slice_get rs j ≡ Some x) (sym c.replicas-2.ensures) there)) c.in-Missing.is in
    apply-lacks s c.args.replica c.args.entry j x c.in-Missing.part w (sym c.is_up.ensures ∙ c.if-not-is_up.false) (omega (arith, l, t)) m

pub apply-requires-clause-place : goal.apply-requires-clause-place
apply-requires-clause-place c =
    let s = c.args.state.now in
    let j = c.from-at.result - 1 in
    let x = c.index-replicas-at.result in
    let found : slice_get c.replicas.result.now j ≡ Some x = grind (arith, common_steps, gets) in
    let there = subst (λ (rs : List ReplicaView). slice_get rs j ≡ Some x) c.replicas.ensures found in
    let f = c.requires.here.first in
    let e = c.from-at.ensures in
    let l = c.len.ensures.len ∙ ap length c.copy.ensures.log in
    let t = c.if-i-len.false in
    let here = subst (λ (k : ℕ). slice_get s.replicas (k - 1) ≡ Some x) e there in
    at-one s.replicas (c.args.replica - 1) x (λ r. c.args.entry < length r.log) here (omega (arith, l, t))

pub apply-requires-clause-of_table : goal.apply-requires-clause-of_table
apply-requires-clause-of_table c = λ y at.
    let s = c.args.state.now in
    let j = c.from-at.result - 1 in
    let there = subst (λ (k : ℕ). slice_get s.replicas (k - 1) ≡ Some y) (sym c.from-at.ensures) at in
    suits-of-table s.replicas y c.args.entry c.in-Ready.supply (ready-found s.replicas c.replicas-2.result.now y c.args.entry c.in-Ready.supply c.in_ok-supply.field-0 c.replicas-2.ensures
    (c.in_ok-supply.ensures y (subst (λ (rs : List ReplicaView). slice_get rs j ≡ Some y) (sym c.replicas-2.ensures) there)) c.in-Ready.is)

pub returns-clause-ok : goal.returns-clause-ok
returns-clause-ok c =
    let s = c.args.state.now in
    let j = c.from-at.result - 1 in
    let x = c.index-replicas-at.result in
    let found : slice_get c.replicas.result.now j ≡ Some x = grind (arith, common_steps, gets) in
    let there = subst (λ (rs : List ReplicaView). slice_get rs j ≡ Some x) c.replicas.ensures found in
    let f = c.requires.here.first in
    let e = c.from-at.ensures in
    let l = c.len.ensures.len ∙ ap length c.copy.ensures.log in
    let t = c.if-i-len.false in
    let here = subst (λ (k : ℕ). slice_get s.replicas (k - 1) ≡ Some x) e there in
    let d = c.apply.ensures in
    let y = d.old in
    let at : slice_get s.replicas (c.args.replica - 1) ≡ Some y = d.at in
    let back = subst (λ (k : ℕ). slice_get s.replicas (k - 1) ≡ Some y) (sym e) at in
    let w : IsWorker s c.args.replica (c.args.replica - 1) y = record { state = c.sound.ensures.state; numbered = omega (arith, f); there = at } in
    let u = ready-found s.replicas c.replicas-2.result.now y c.args.entry c.in-Ready.supply c.in_ok-supply.field-0 c.replicas-2.ensures
    (c.in_ok-supply.ensures y (subst (λ (rs : List ReplicaView). slice_get rs j ≡ Some y) (sym c.replicas-2.ensures) back)) c.in-Ready.is in
    subst (λ (v : StateView). IfOk c.apply_reply.result (λ reply. Acts s (ev.Apply c.args.replica c.args.entry) reply v)) (sym d.rest)
    (apply-told s c.args.replica (c.args.replica - 1) y d.new c.args.entry c.in-Ready.supply c.apply.result c.apply_reply.result w
    (at-one s.replicas (c.args.replica - 1) x IsStandingReplica here c.copy.ensures.standing y at)
    (at-one s.replicas (c.args.replica - 1) x (λ r. r.up ≡ true) here (sym c.is_up.ensures ∙ c.if-not-is_up.false) y at)
    (at-one s.replicas (c.args.replica - 1) x (λ r. c.args.entry < length r.log) here (omega (arith, l, t)) y at)
    u d.answers d.changes c.apply_reply.ensures)

pub returns-clause-err : goal.returns-clause-err
returns-clause-err c =
    let s = c.args.state.now in
    let d = c.apply.ensures in
    subst (λ (v : StateView). OnErr c.apply_reply.result (v ≡ s)) (sym d.rest)
    (apply-stays s (c.args.replica - 1) c.args.entry d.old d.new c.in-Ready.supply c.apply.result c.apply_reply.result d.at d.changes c.apply_reply.ensures)
