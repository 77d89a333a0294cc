use Rattle.std.proofs.Common.{inr}
use Rattle.rmt_pass.specs.MergeSteps.{OptimizesTo}
use Rattle.rmt_pass.specs.Passes.{KeepsPass, TakesStep}
use Rattle.rmt_pass.proofs.KnownLemmas.{on-err}
use Rattle.rmt_workers.specs.Crews.{Saw}
use Rattle.rmt_workers.proofs.StepLemmas.{from-none, from-some, keeps-both, looked-keeps, looked-saw, looked-takes}
use Rattle.rmt_workers.proofs.crew.Crew.merge.Goals as goal

pub returns-in_err-merged-clause-err : goal.returns-in_err-merged-clause-err
returns-in_err-merged-clause-err g c =
    on-err c.from_residual.result (KeepsPass c.args.pass.now c.args.table c.try_merge.new.pass)
    (keeps-both c.args.pass.now c.tries.pass c.try_merge.new.pass c.args.table (looked-keeps c.args.pass.now c.tries.pass c.args.table c.tries.invariant.2) c.in_err-merged.ensures.err)

pub returns-in-Some-2-clause-merges : goal.returns-in-Some-2-clause-merges
returns-in-Some-2-clause-merges g c =
    looked-takes g.N.Naming.offered c.args.pass.now c.tries.pass c.try_merge.new.pass c.args.table (OptimizesTo c.args.partition c.in-Some-2.merged) c.tries.invariant.2
    (from-some c.in_ok-merged.field-0 c.in-Some-2.merged (Saw c.tries.pass c.args.table c.try_merge.new.pass) (λ m. TakesStep g.N.Naming.offered c.tries.pass c.args.table (OptimizesTo c.args.partition m) c.try_merge.new.pass) c.in-Some-2.is c.in_ok-merged.ensures.merges)

pub tries-preserved : goal.tries-preserved
tries-preserved g c = (
  tt,
  tt,
  inr (looked-saw c.args.pass.now c.tries.pass c.try_merge.new.pass c.args.table c.tries.invariant.2
      (from-none c.in_ok-merged.field-0 (Saw c.tries.pass c.args.table c.try_merge.new.pass) (λ m. TakesStep g.N.Naming.offered c.tries.pass c.args.table (OptimizesTo c.args.partition m) c.try_merge.new.pass) c.in_default.is c.in_ok-merged.ensures.merges)),
)
