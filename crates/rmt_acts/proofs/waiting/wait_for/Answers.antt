use Rattle.std.proofs.Common.{◌≡◌, ◌∙◌, ◌+◌, List, ◌∷◌, drop, ap, sym, subst}
use Rattle.std.proofs.lemmas.List.{drop_all}
use Rattle.std.specs.declared.option.Option.{Option}
use Rattle.rmt_names.specs.Names.{Name}
use Rattle.rmt_entries.specs.declared.entry.Entry.{Entry}
use Rattle.rmt_model.specs.Live.{live}
use Rattle.rmt_reply.specs.declared.refusal.Refusal.{Refusal}
use Rattle.rmt_live_names.specs.Places.{IsPlaceOf}
use Rattle.rmt_acts.specs.Syncing.{SyncsReplica}
use Rattle.rmt_acts.specs.Waiting.{Settles}
use Rattle.rmt_acts.proofs.SyncActs.{synced-told, synced-events}
use Rattle.rmt_acts.proofs.OptimizeActs.{whole-log}
use Rattle.rmt_acts.proofs.WaitActs.{IsWaiting, wait-lacks, waiting-begins, waiting-goes-on, waiting-ends, waiting-stops, waited-all, waited-some, next-part, place-below}
use Rattle.rmt_acts.proofs.EventLists.{at-err, reaches-synced, stops-between, stops-later, stops-syncing}
use Rattle.rmt_acts.proofs.waiting.wait_for.Goals as goal
use Rattle.rmt_acts.proofs.waiting.wait_for.Goals.{In_ok-refusal}

pub parts-init : goal.parts-init
parts-init c =
    let u = c.sync_replica.new.cluster in
    let done = c.in_ok-lacking.ensures in
    let y = synced-told c.args.cluster.now u c.args.replica c.in_ok-lacking.field-0 c.in_default.not-Some done.syncs in
    let parts : c.deref-part-items.result.now ≡ live u.table.log =
    c.deref-part-items.ensures.value ∙ (c.in_ok-parts.ensures.items ∙ (c.live.ensures ∙ ap live (whole-log u c.args.replica c.copy-2.result.now.log y.whole c.copy-2.ensures.log))) in
    let place = subst (λ (l : List Entry). IsPlaceOf l c.args.id c.place_of-place.result) (whole-log u c.args.replica c.copy.result.now.log y.whole c.copy.ensures.log) c.place_of-place.ensures in
    subst (λ (ps : List Name). IsWaiting c.args.cluster.now c.args.replica c.args.id c.place_of-place.result ps u) (sym parts)
    (waiting-begins c.args.cluster.now u c.args.replica c.args.id c.place_of-place.result c.drained_replicas_agree.ensures.whole place done.idle done.keeps.ups y.whole done.keeps.table.schema done.keeps.table.replicas y.shows
    (synced-events c.args.cluster.now u c.args.replica c.in_ok-lacking.field-0 c.in_default.not-Some done.events) done.table)

pub settle_part-requires-clause-below : goal.settle_part-requires-clause-below
settle_part-requires-clause-below c = place-below c.parts.cluster.table.log c.args.id c.place_of-place.result c.parts.invariant.placed

-- the next part and those behind it
to-come : (c : In_ok-refusal) → IsWaiting c.args.cluster.now c.args.replica c.args.id c.place_of-place.result (c.part-item.result ∷ drop (c.parts.part-index + 1) c.deref-part-items.result.now) c.parts.cluster
to-come c =
    subst (λ (ps : List Name). IsWaiting c.args.cluster.now c.args.replica c.args.id c.place_of-place.result ps c.parts.cluster)
    (next-part c.deref-part-items.result.now c.parts.part-index c.part-item.result c.parts-test.true c.part-item.is) c.parts.invariant

pub returns-in-Some-clause-waits : goal.returns-in-Some-clause-waits
returns-in-Some-clause-waits c =
    wait-lacks c.args.cluster.now c.sync_replica.new.cluster c.args.replica c.args.id c.in-Some.lacking
    (subst (λ (o : Option Refusal). SyncsReplica c.args.cluster.now c.args.replica o c.sync_replica.new.cluster) c.in-Some.is c.in_ok-lacking.ensures.syncs)

pub returns-in-Some-2-clause-waits : goal.returns-in-Some-2-clause-waits
returns-in-Some-2-clause-waits c =
    waiting-stops c.args.cluster.now c.parts.cluster c.settle_part.new.cluster c.args.replica c.args.id c.place_of-place.result c.part-item.result (drop (c.parts.part-index + 1) c.deref-part-items.result.now) c.in-Some-2.refusal
    c.drained_replicas_agree-in-parts.ensures.whole (subst (λ (o : Option Refusal). Settles c.parts.cluster c.args.replica c.part-item.result c.place_of-place.result o c.settle_part.new.cluster) c.in-Some-2.is c.in_ok-refusal.ensures.settles)
    (to-come (goal.at.returns-in-Some-2-clause-waits c).In_ok-refusal)

pub parts-preserved : goal.parts-preserved
parts-preserved c =
    let done = c.in_ok-refusal.ensures in
    waiting-goes-on c.args.cluster.now c.parts.cluster c.settle_part.new.cluster c.args.replica c.args.id c.place_of-place.result c.part-item.result (drop (c.parts.part-index + 1) c.deref-part-items.result.now)
    c.drained_replicas_agree-in-parts.ensures.whole (subst (λ (o : Option Refusal). Settles c.parts.cluster c.args.replica c.part-item.result c.place_of-place.result o c.settle_part.new.cluster) c.in_default-2.is done.settles)
    done.idle done.keeps.ups done.keeps.table.schema done.keeps.table.replicas done.events (to-come (goal.at.parts-preserved c).In_ok-refusal)

pub returns-clause-waits : goal.returns-clause-waits
returns-clause-waits c =
    waiting-ends c.args.cluster.now c.parts.cluster c.args.replica c.args.id c.place_of-place.result c.drained_replicas_agree-2.ensures.whole
    (subst (λ (ps : List Name). IsWaiting c.args.cluster.now c.args.replica c.args.id c.place_of-place.result ps c.parts.cluster) (drop_all c.parts.part-index c.deref-part-items.result.now c.parts-test.false) c.parts.invariant)

pub returns-in-Some-2-clause-events : goal.returns-in-Some-2-clause-events
returns-in-Some-2-clause-events c =
    waited-some c.args.cluster.now c.parts.cluster c.settle_part.new.cluster c.args.replica c.args.id c.place_of-place.result c.part-item.result (drop (c.parts.part-index + 1) c.deref-part-items.result.now) c.in-Some-2.refusal
    c.in_ok-refusal.ensures.events (to-come (goal.at.returns-in-Some-2-clause-events c).In_ok-refusal)

pub returns-clause-events : goal.returns-clause-events
returns-clause-events c =
    waited-all c.args.cluster.now c.parts.cluster c.args.replica c.args.id c.place_of-place.result
    (subst (λ (ps : List Name). IsWaiting c.args.cluster.now c.args.replica c.args.id c.place_of-place.result ps c.parts.cluster) (drop_all c.parts.part-index c.deref-part-items.result.now c.parts-test.false) c.parts.invariant)

pub returns-in_err-lacking-clause-err : goal.returns-in_err-lacking-clause-err
returns-in_err-lacking-clause-err c = at-err c.from_residual.result _ (stops-syncing c.args.cluster.now c.sync_replica.new.cluster c.args.replica c.in_err-lacking.ensures.err)

pub returns-in_err-parts-clause-err : goal.returns-in_err-parts-clause-err
returns-in_err-parts-clause-err c =
    let y = synced-events c.args.cluster.now c.sync_replica.new.cluster c.args.replica c.in_ok-lacking.field-0 c.in_default.not-Some c.in_ok-lacking.ensures.events in
    at-err c.from_residual-in_err-parts.result _ (stops-between c.args.cluster.now c.sync_replica.new.cluster (reaches-synced c.args.cluster.now c.sync_replica.new.cluster c.args.replica y.syncs))

pub returns-in_err-refusal-clause-err : goal.returns-in_err-refusal-clause-err
returns-in_err-refusal-clause-err c =
    at-err c.from_residual-in_err-refusal.result _ (stops-later c.args.cluster.now c.parts.cluster c.settle_part.new.cluster c.parts.invariant.reaches c.in_err-refusal.ensures.err)
