use Rattle.std.proofs.Common.{◌<◌, length, sym, subst, ap}
use Rattle.rmt_shared.specs.SharedTables.{logs_of}
use Rattle.rmt_shared.specs.SharedReplicas.{SharedReplicaView}
use Rattle.rmt_shared.proofs.AppendLemmas.{gain-none, gain-same, merge-works, mutate-works}
use Rattle.rmt_shared.proofs.shared_replica.SharedReplica.begin.Goals as goal

pub returns-in_err-assign_merge-in-Merge-clause-works : goal.returns-in_err-assign_merge-in-Merge-clause-works
returns-in_err-assign_merge-in-Merge-clause-works g c = gain-same (logs_of c.args.tables.now) (logs_of c.assign_merge.new.self) (ap logs_of c.in_err-assign_merge-in-Merge.ensures.err)

pub returns-in_err-assign_mutate-in-Mutate-clause-works : goal.returns-in_err-assign_mutate-in-Mutate-clause-works
returns-in_err-assign_mutate-in-Mutate-clause-works g c = gain-same (logs_of c.args.tables.now) (logs_of c.assign_mutate.new.self) (ap logs_of c.in_err-assign_mutate-in-Mutate.ensures.err)

pub returns-in-Pull-clause-works : goal.returns-in-Pull-clause-works
returns-in-Pull-clause-works g c = gain-same (logs_of c.args.tables.now) (logs_of c.try_pull.new.tables) c.try_pull.ensures.logs

pub returns-in_ok-assign_merge-in-Merge-clause-works : goal.returns-in_ok-assign_merge-in-Merge-clause-works
returns-in_ok-assign_merge-in-Merge-clause-works g c = merge-works c.args.tables.now c.assign_merge.new.self c.self.inside.table c.in_ok-assign_merge-in-Merge.field-0 c.as_slice.result.now (subst (λ (v : SharedReplicaView). v.table < length c.args.tables.now) (sym c.self.view_is) c.requires.table) c.in_ok-assign_merge-in-Merge.ensures.ok

pub returns-in_ok-assign_mutate-in-Mutate-clause-works : goal.returns-in_ok-assign_mutate-in-Mutate-clause-works
returns-in_ok-assign_mutate-in-Mutate-clause-works g c = mutate-works c.args.tables.now c.assign_mutate.new.self c.self-in-Mutate.inside.table c.in_ok-assign_mutate-in-Mutate.field-0 c.in-Mutate.old c.in-Mutate.upto (subst (λ (v : SharedReplicaView). v.table < length c.args.tables.now) (sym c.self-in-Mutate.view_is) c.requires.table) c.in_ok-assign_mutate-in-Mutate.ensures.ok

pub returns-in-Apply-clause-works : goal.returns-in-Apply-clause-works
returns-in-Apply-clause-works g c = gain-none (logs_of c.args.tables.now)

pub returns-in-Apply-2-clause-works : goal.returns-in-Apply-2-clause-works
returns-in-Apply-2-clause-works g c = gain-none (logs_of c.args.tables.now)
