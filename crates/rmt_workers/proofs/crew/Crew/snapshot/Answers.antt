use Rattle.std.proofs.Common.{inr}
use Rattle.rmt_statement_model.specs.ActOutcomes.{ReadsParts}
use Rattle.rmt_pass.specs.Passes.{KeepsPass, TakesStep}
use Rattle.rmt_pass.proofs.KnownLemmas.{on-err}
use Rattle.rmt_workers.specs.Crews.{Saw}
use Rattle.rmt_workers.proofs.StepLemmas.{from-none, from-some, keeps-both, looked-keeps, looked-saw, looked-takes}
use Rattle.rmt_workers.proofs.crew.Crew.snapshot.Goals as goal

pub returns-in_err-parts-clause-err : goal.returns-in_err-parts-clause-err
returns-in_err-parts-clause-err g c =
    on-err c.from_residual.result (KeepsPass c.args.pass.now c.args.table c.try_snapshot.new.pass)
    (keeps-both c.args.pass.now c.tries.pass c.try_snapshot.new.pass c.args.table (looked-keeps c.args.pass.now c.tries.pass c.args.table c.tries.invariant.2) c.in_err-parts.ensures.err)

pub returns-in-Some-2-clause-reads : goal.returns-in-Some-2-clause-reads
returns-in-Some-2-clause-reads g c =
    looked-takes g.N.Naming.offered c.args.pass.now c.tries.pass c.try_snapshot.new.pass c.args.table (ReadsParts c.args.replica c.in-Some-2.parts) c.tries.invariant.2
    (from-some c.in_ok-parts.field-0 c.in-Some-2.parts (Saw c.tries.pass c.args.table c.try_snapshot.new.pass) (λ x. TakesStep g.N.Naming.offered c.tries.pass c.args.table (ReadsParts c.args.replica x) c.try_snapshot.new.pass) c.in-Some-2.is c.in_ok-parts.ensures.reads)

pub tries-preserved : goal.tries-preserved
tries-preserved g c = (
  tt,
  tt,
  inr (looked-saw c.args.pass.now c.tries.pass c.try_snapshot.new.pass c.args.table c.tries.invariant.2
      (from-none c.in_ok-parts.field-0 (Saw c.tries.pass c.args.table c.try_snapshot.new.pass) (λ x. TakesStep g.N.Naming.offered c.tries.pass c.args.table (ReadsParts c.args.replica x) c.try_snapshot.new.pass) c.in_default.is c.in_ok-parts.ensures.reads)),
)

pub returns-in_err-help-clause-err : goal.returns-in_err-help-clause-err
returns-in_err-help-clause-err g c =
    on-err c.from_residual-in_err-help.result (KeepsPass c.args.pass.now c.args.table c.try_snapshot.new.pass)
    (keeps-both c.args.pass.now c.tries.pass c.try_snapshot.new.pass c.args.table (looked-keeps c.args.pass.now c.tries.pass c.args.table c.tries.invariant.2)
    (from-none c.in_ok-parts.field-0 (Saw c.tries.pass c.args.table c.try_snapshot.new.pass) (λ x. TakesStep g.N.Naming.offered c.tries.pass c.args.table (ReadsParts c.args.replica x) c.try_snapshot.new.pass) c.in_default.is c.in_ok-parts.ensures.reads).keeps)
