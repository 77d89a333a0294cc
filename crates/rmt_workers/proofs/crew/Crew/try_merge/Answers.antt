use Rattle.std.proofs.Common.{List, sym, subst}
use Rattle.rmt_table_model.specs.Held.{Held}
use Rattle.rmt_pass.specs.MergeSteps.{OptimizesTo}
use Rattle.rmt_pass.specs.Passes.{IsCurrent, KeepsPass}
use Rattle.rmt_pass.proofs.KnownLemmas.{on-err}
use Rattle.rmt_workers.proofs.StepLemmas.{keeps-both, may-take, saw-of, sees-current}
use Rattle.rmt_workers.proofs.crew.Crew.try_merge.Goals as goal

pub merge_live-requires-clause-current : goal.merge_live-requires-clause-current
merge_live-requires-clause-current g c =
    subst (λ (ts : List Held). IsCurrent c.see.new.pass c.args.table ts) (sym c.deref_mut-tables.ensures.value)
    (sees-current c.args.pass.now c.args.table c.in_ok-guard.guard.value c.see.new.pass c.in_ok-guard.ensures.ok)

pub returns-clause-merges : goal.returns-clause-merges
returns-clause-merges g c =
    may-take g.N.Naming.offered c.args.pass.now c.see.new.pass c.merge_live.new.self c.args.table c.in_ok-guard.guard.value (λ m. OptimizesTo c.args.partition m) c.in_ok-merged.merged c.in_ok-guard.ensures.ok c.in_ok-merged.ensures.ok

pub returns-in_err-merged-clause-err : goal.returns-in_err-merged-clause-err
returns-in_err-merged-clause-err g c =
    on-err c.from_residual-in_err-merged.result (KeepsPass c.args.pass.now c.args.table c.merge_live.new.self)
    (keeps-both c.args.pass.now c.see.new.pass c.merge_live.new.self c.args.table c.in_ok-guard.ensures.ok.all.keeps c.in_err-merged.ensures.err)

pub returns-then-not-branch-clause-merges : goal.returns-then-not-branch-clause-merges
returns-then-not-branch-clause-merges g c = saw-of c.args.pass.now c.args.table c.in_ok-guard.guard.value c.see.new.pass c.in_ok-guard.ensures.ok
