use Rattle.std.proofs.Common.{◌≡◌, inr}
use Rattle.rmt_statement_model.specs.TableStates.{synced}
use Rattle.rmt_pass.specs.Passes.{KeepsPass, TakesStep}
use Rattle.rmt_pass.proofs.KnownLemmas.{on-err}
use Rattle.rmt_workers.specs.Crews.{Saw}
use Rattle.rmt_workers.proofs.StepLemmas.{keeps-both, looked-keeps, looked-takes}
use Rattle.rmt_workers.proofs.DrainLemmas.{from-true, looked-on}
use Rattle.rmt_workers.proofs.crew.Crew.bring_up.Goals as goal

pub returns-in_err-look-clause-err : goal.returns-in_err-look-clause-err
returns-in_err-look-clause-err g c =
    on-err c.from_residual.result (KeepsPass c.args.pass.now c.args.table c.look.new.pass)
    (keeps-both c.args.pass.now c.tries.pass c.look.new.pass c.args.table (looked-keeps c.args.pass.now c.tries.pass c.args.table c.tries.invariant.2) c.in_err-look.ensures.err)

pub returns-then-branch-clause-ok : goal.returns-then-branch-clause-ok
returns-then-branch-clause-ok g c =
    looked-takes g.N.Naming.offered c.args.pass.now c.tries.pass c.look.new.pass c.args.table (λ t u. u ≡ synced c.args.replica t) c.tries.invariant.2
    (from-true c.in_ok-look.field-0 (TakesStep g.N.Naming.offered c.tries.pass c.args.table (λ t u. u ≡ synced c.args.replica t) c.look.new.pass) (Saw c.tries.pass c.args.table c.look.new.pass) c.if-branch.true c.in_ok-look.ensures.looks)

pub returns-in_err-help-clause-err : goal.returns-in_err-help-clause-err
returns-in_err-help-clause-err g c =
    on-err c.from_residual-in_err-help.result (KeepsPass c.args.pass.now c.args.table c.look.new.pass)
    (looked-on g.N.Naming.offered c.args.pass.now c.tries.pass c.look.new.pass c.args.table c.args.replica c.in_ok-look.field-0 c.tries.invariant.2 c.if-branch.false c.in_ok-look.ensures.looks).keeps

pub tries-preserved : goal.tries-preserved
tries-preserved g c = (
  tt,
  tt,
  inr (looked-on g.N.Naming.offered c.args.pass.now c.tries.pass c.look.new.pass c.args.table c.args.replica c.in_ok-look.field-0 c.tries.invariant.2 c.if-branch.false c.in_ok-look.ensures.looks),
)
