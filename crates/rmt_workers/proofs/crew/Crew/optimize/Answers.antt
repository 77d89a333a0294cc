use Rattle.std.proofs.Common.{◌∙◌, ap}
use Rattle.std.specs.declared.option.Option.TheVariants.{Some, None}
use Rattle.rmt_history.specs.Copies.{History}
use Rattle.rmt_known.specs.KnownTables.{Known}
use Rattle.rmt_pass.specs.Passes.{KeepsPass}
use Rattle.rmt_pass.proofs.KnownLemmas.{on-err}
use Rattle.rmt_workers.proofs.StepLemmas.{keeps-both}
use Rattle.rmt_workers.proofs.OptimizeLemmas.{ends-all, ends-there, one-more, synced-so, table-done}
use Rattle.rmt_workers.proofs.crew.Crew.optimize.Goals as goal

pub returns-in_err-name-clause-err : goal.returns-in_err-name-clause-err
returns-in_err-name-clause-err g c =
    on-err c.from_residual-in_err-name.result (KeepsPass c.args.pass.now c.args.table c.optimize_partition.new.pass)
    (keeps-both c.args.pass.now c.sync.new.pass c.optimize_partition.new.pass c.args.table c.in_ok-refusal.ensures.syncs.keeps
    (keeps-both c.sync.new.pass c.partitions.pass c.optimize_partition.new.pass c.args.table c.partitions.invariant.keeps c.in_err-name.ensures.err))

pub returns-in_err-push-in-Name-clause-err : goal.returns-in_err-push-in-Name-clause-err
returns-in_err-push-in-Name-clause-err g c =
    on-err c.from_residual-in_err-push-in-Name.result (KeepsPass c.args.pass.now c.args.table c.optimize_partition.new.pass)
    (keeps-both c.args.pass.now c.sync.new.pass c.optimize_partition.new.pass c.args.table c.in_ok-refusal.ensures.syncs.keeps
    (keeps-both c.sync.new.pass c.partitions.pass c.optimize_partition.new.pass c.args.table c.partitions.invariant.keeps c.in_ok-name.ensures.ok.keeps))

pub partitions-preserved : goal.partitions-preserved
partitions-preserved g c =
    one-more g.N.Naming.offered c.sync.new.pass c.partitions.pass c.optimize_partition.new.pass c.args.table c.args.replica c.deref-partition-items.result.now c.partitions.partition-index c.partitions.names.items c.push.new.self.items c.in_ok-name.field-0
    c.partitions-test.true c.partitions.invariant c.in_ok-name.ensures.ok c.in-Name.name c.in-Name.is c.in_ok-push-in-Name.ensures.items

pub returns-in-Refused-clause-optimizes : goal.returns-in-Refused-clause-optimizes
returns-in-Refused-clause-optimizes g c =
    table-done g.N.Naming.offered c.args.pass.now c.sync.new.pass c.optimize_partition.new.pass c.args.table c.args.replica c.args.asked c.deref-partition-items.result.now c.copy.result.now.log c.new-names-in-Refused.result (Some c.in-Refused.refusal)
    (synced-so g.N.Naming.offered c.args.pass.now c.sync.new.pass c.args.table c.args.replica c.in_ok-refusal.field-0 c.in_default.is c.in_ok-refusal.ensures.syncs)
    (c.deref-partition-items.ensures.value ∙ c.in_ok-all.ensures)
    (ap (λ (h : History). h.log) c.copy.ensures ∙ ap (λ (k : Known). k.log) c.known.ensures.known)
    (ends-there g.N.Naming.offered c.sync.new.pass c.partitions.pass c.optimize_partition.new.pass c.args.table c.args.replica c.deref-partition-items.result.now c.partitions.partition-index c.partitions.names.items c.new-names-in-Refused.result
    c.in_ok-name.field-0 c.partitions-test.true c.partitions.invariant c.in_ok-name.ensures.ok c.in-Refused.refusal c.in-Refused.is c.new-names-in-Refused.ensures)

pub returns-clause-optimizes : goal.returns-clause-optimizes
returns-clause-optimizes g c =
    table-done g.N.Naming.offered c.args.pass.now c.sync.new.pass c.partitions.pass c.args.table c.args.replica c.args.asked c.deref-partition-items.result.now c.copy.result.now.log c.new-names-2.result None
    (synced-so g.N.Naming.offered c.args.pass.now c.sync.new.pass c.args.table c.args.replica c.in_ok-refusal.field-0 c.in_default.is c.in_ok-refusal.ensures.syncs)
    (c.deref-partition-items.ensures.value ∙ c.in_ok-all.ensures)
    (ap (λ (h : History). h.log) c.copy.ensures ∙ ap (λ (k : Known). k.log) c.known.ensures.known)
    (ends-all g.N.Naming.offered c.sync.new.pass c.partitions.pass c.args.table c.args.replica c.deref-partition-items.result.now c.partitions.partition-index c.partitions.names.items c.new-names-2.result c.partitions-test.false c.partitions.invariant
    c.new-names-2.ensures)
