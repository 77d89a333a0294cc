use Rattle.std.proofs.Common.{◌≡◌, ap, subst, ◌∙◌}
use Rattle.std.specs.declared.option.Option.{Option}
use Rattle.std.specs.declared.option.Option.TheVariants.{Some}
use Rattle.rmt_reply.specs.declared.refusal.Refusal.{Refusal}
use Rattle.rmt_acts.specs.Syncing.{SyncsReplica}
use Rattle.rmt_events.specs.Views.{Table}
use Rattle.rmt_statement_model.specs.Optimizes.{partitions_asked}
use Rattle.rmt_acts.proofs.SyncActs.{synced-told, synced-events}
use Rattle.rmt_acts.proofs.OptimizeActs.{whole-log}
use Rattle.rmt_acts.proofs.OptimizeLoops.{lacks-part, none-yet, next-live, one-more, ends-there, ends-all, ends-there-by, ends-all-by}
use Rattle.rmt_acts.proofs.EventLists.{at-err, reaches-merges, reaches-synced, reaches-then, stops-between, stops-later, stops-syncing}
use Rattle.rmt_acts.proofs.optimizing.optimize.Goals as goal
use Rattle.rmt_acts.proofs.optimizing.optimize.Goals.{After-deref-partition-items}

-- the partitions are those that are asked for
asked : (c : After-deref-partition-items) → c.deref-partition-items.result.now ≡ partitions_asked c.args.asked c.args.cluster.now.table.log
asked c =
    let done = c.in_ok-refusal.ensures in
    let y = synced-told c.args.cluster.now c.sync_replica.new.cluster c.args.replica c.in_ok-refusal.field-0 c.in_default.not-Some done.syncs in
    let log = whole-log c.sync_replica.new.cluster c.args.replica c.copy.result.now.log y.whole c.copy.ensures.log ∙ ap (λ (t : Table). t.log) done.table in
    c.deref-partition-items.ensures.value ∙ (c.in_ok-all.ensures ∙ ap (partitions_asked c.args.asked) log)

pub partitions-init : goal.partitions-init
partitions-init c =
    let done = c.in_ok-refusal.ensures in
    let y = synced-told c.args.cluster.now c.sync_replica.new.cluster c.args.replica c.in_ok-refusal.field-0 c.in_default.not-Some done.syncs in
    none-yet c.args.cluster.now c.sync_replica.new.cluster c.args.replica c.new-names.result.items c.new-names.ensures.items y.shows y.whole done.idle done.keeps.ups done.keeps.table.schema done.keeps.table.replicas
    (synced-events c.args.cluster.now c.sync_replica.new.cluster c.args.replica c.in_ok-refusal.field-0 c.in_default.not-Some done.events)

pub optimize_partition-requires-clause-some : goal.optimize_partition-requires-clause-some
optimize_partition-requires-clause-some c =
    let all = asked (goal.at.optimize_partition-requires-clause-some c).After-deref-partition-items in
    next-live c.args.cluster.now c.partitions.cluster c.args.replica c.args.asked c.deref-partition-items.result.now c.partitions.partition-index c.partitions.names.items c.drained_replicas_agree.ensures.whole all
    c.partitions-test.true c.partitions.invariant

pub partitions-preserved : goal.partitions-preserved
partitions-preserved c =
    let done = c.in_ok-name.ensures in
    one-more c.args.cluster.now c.partitions.cluster c.optimize_partition.new.cluster c.args.replica c.deref-partition-items.result.now c.partitions.partition-index c.partitions.names.items c.push.new.self.items c.in_ok-name.field-0 c.in-Name.name
    c.partitions-test.true c.partitions.invariant done.optimizes c.in-Name.is c.in_ok-push-in-Name.ensures.items done.whole done.idle done.keeps.ups done.keeps.table.schema done.keeps.table.replicas done.events

pub returns-in-Refused-clause-optimizes : goal.returns-in-Refused-clause-optimizes
returns-in-Refused-clause-optimizes c =
    let all = asked (goal.at.returns-in-Refused-clause-optimizes c).After-deref-partition-items in
    ends-there c.args.cluster.now c.partitions.cluster c.optimize_partition.new.cluster c.args.replica c.args.asked c.deref-partition-items.result.now c.partitions.partition-index c.partitions.names.items c.new-names-in-Refused.result
    c.in_ok-name.field-0 c.in-Refused.refusal all c.partitions-test.true c.partitions.invariant c.in_ok-name.ensures.optimizes c.in-Refused.is c.new-names-in-Refused.ensures

pub returns-clause-optimizes : goal.returns-clause-optimizes
returns-clause-optimizes c =
    let all = asked (goal.at.returns-clause-optimizes c).After-deref-partition-items in
    ends-all c.args.cluster.now c.partitions.cluster c.args.replica c.args.asked c.deref-partition-items.result.now c.partitions.partition-index c.partitions.names.items c.new-names-2.result all c.partitions-test.false
    c.partitions.invariant c.new-names-2.ensures

pub returns-in-Some-clause-optimizes : goal.returns-in-Some-clause-optimizes
returns-in-Some-clause-optimizes c =
    lacks-part c.args.cluster.now c.sync_replica.new.cluster c.args.replica c.args.asked c.empty-names.result c.in-Some.refusal c.empty-names.ensures
    (subst (λ (o : Option Refusal). SyncsReplica c.args.cluster.now c.args.replica o c.sync_replica.new.cluster) c.in-Some.is c.in_ok-refusal.ensures.syncs)

pub returns-in-Refused-clause-events : goal.returns-in-Refused-clause-events
returns-in-Refused-clause-events c =
    ends-there-by c.args.cluster.now c.partitions.cluster c.optimize_partition.new.cluster c.args.replica _ c.partitions.names.items c.new-names-in-Refused.result (Some c.in-Refused.refusal) c.partitions.invariant c.in_ok-name.ensures.events c.new-names-in-Refused.ensures

pub returns-clause-events : goal.returns-clause-events
returns-clause-events c = ends-all-by c.args.cluster.now c.partitions.cluster c.args.replica _ c.partitions.names.items c.new-names-2.result c.partitions.invariant c.new-names-2.ensures

pub returns-in_err-refusal-clause-err : goal.returns-in_err-refusal-clause-err
returns-in_err-refusal-clause-err c = at-err c.from_residual.result _ (stops-syncing c.args.cluster.now c.sync_replica.new.cluster c.args.replica c.in_err-refusal.ensures.err)

pub returns-in_err-all-clause-err : goal.returns-in_err-all-clause-err
returns-in_err-all-clause-err c =
    let y = synced-events c.args.cluster.now c.sync_replica.new.cluster c.args.replica c.in_ok-refusal.field-0 c.in_default.not-Some c.in_ok-refusal.ensures.events in
    at-err c.from_residual-in_err-all.result _ (stops-between c.args.cluster.now c.sync_replica.new.cluster (reaches-synced c.args.cluster.now c.sync_replica.new.cluster c.args.replica y.syncs))

pub returns-in_err-name-clause-err : goal.returns-in_err-name-clause-err
returns-in_err-name-clause-err c =
    at-err c.from_residual-in_err-name.result _ (stops-later c.args.cluster.now c.partitions.cluster c.optimize_partition.new.cluster c.partitions.invariant.reaches c.in_err-name.ensures.err)

pub returns-in_err-push-in-Name-clause-err : goal.returns-in_err-push-in-Name-clause-err
returns-in_err-push-in-Name-clause-err c =
    at-err c.from_residual-in_err-push-in-Name.result _
    (stops-between c.args.cluster.now c.optimize_partition.new.cluster (reaches-then c.args.cluster.now c.partitions.cluster c.optimize_partition.new.cluster c.partitions.invariant.reaches
    (reaches-merges c.partitions.cluster c.optimize_partition.new.cluster c.args.replica c.in_ok-name.ensures.events)))
