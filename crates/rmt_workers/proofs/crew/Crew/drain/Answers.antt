use Rattle.std.proofs.Common.{◌≡◌, inr, sym, subst}
use Rattle.rmt_statement_model.specs.LostSources.{LacksSource}
use Rattle.rmt_pass.specs.Passes.{PassView, KeepsPass, TakesStep, up_in}
use Rattle.rmt_pass.proofs.KnownLemmas.{on-err}
use Rattle.rmt_workers.specs.Crews.{Saw}
use Rattle.rmt_workers.proofs.StepLemmas.{from-none, from-some, keeps-both, looked-keeps, looked-saw}
use Rattle.rmt_workers.proofs.DrainLemmas.{looked-loses}
use Rattle.rmt_workers.proofs.crew.Crew.drain.Goals as goal

pub returns-in_err-has_caught_up-clause-err : goal.returns-in_err-has_caught_up-clause-err
returns-in_err-has_caught_up-clause-err g c =
    on-err c.from_residual.result (KeepsPass c.args.pass.now c.args.table c.has_caught_up.new.pass)
    (keeps-both c.args.pass.now c.tries.pass c.has_caught_up.new.pass c.args.table (looked-keeps c.args.pass.now c.tries.pass c.args.table c.tries.invariant.2) c.in_err-has_caught_up.ensures.err)

pub returns-then-branch-clause-drains : goal.returns-then-branch-clause-drains
returns-then-branch-clause-drains g c = looked-saw c.args.pass.now c.tries.pass c.has_caught_up.new.pass c.args.table c.tries.invariant.2 c.in_ok-has_caught_up.ensures.saw

pub returns-in_err-refusal-clause-err : goal.returns-in_err-refusal-clause-err
returns-in_err-refusal-clause-err g c =
    let saw = looked-saw c.args.pass.now c.tries.pass c.has_caught_up.new.pass c.args.table c.tries.invariant.2 c.in_ok-has_caught_up.ensures.saw in
    on-err c.from_residual-in_err-refusal.result (KeepsPass c.args.pass.now c.args.table c.advance.new.pass)
    (subst (λ (p : PassView). KeepsPass c.args.pass.now c.args.table p) (sym c.in_err-refusal.ensures.err) saw.keeps)

pub returns-in-Some-2-clause-drains : goal.returns-in-Some-2-clause-drains
returns-in-Some-2-clause-drains g c =
    let saw = looked-saw c.args.pass.now c.tries.pass c.has_caught_up.new.pass c.args.table c.tries.invariant.2 c.in_ok-has_caught_up.ensures.saw in
    looked-loses g.N.Naming.offered c.args.pass.now c.has_caught_up.new.pass c.advance.new.pass c.args.table c.args.replica c.in-Some-2.refusal saw
    (from-some c.in_ok-refusal.field-0 c.in-Some-2.refusal (c.advance.new.pass ≡ c.has_caught_up.new.pass) (λ why. TakesStep g.N.Naming.offered c.has_caught_up.new.pass c.args.table (λ t u. LacksSource (up_in c.has_caught_up.new.pass.up) t c.args.replica why u) c.advance.new.pass) c.in-Some-2.is c.in_ok-refusal.ensures.ok)

pub tries-preserved : goal.tries-preserved
tries-preserved g c =
    let saw = looked-saw c.args.pass.now c.tries.pass c.has_caught_up.new.pass c.args.table c.tries.invariant.2 c.in_ok-has_caught_up.ensures.saw in (
      tt,
      tt,
      inr (subst (λ (p : PassView). Saw c.args.pass.now c.args.table p)
          (sym (from-none c.in_ok-refusal.field-0 (c.advance.new.pass ≡ c.has_caught_up.new.pass) (λ why. TakesStep g.N.Naming.offered c.has_caught_up.new.pass c.args.table (λ t u. LacksSource (up_in c.has_caught_up.new.pass.up) t c.args.replica why u) c.advance.new.pass) c.in_default.is c.in_ok-refusal.ensures.ok)) saw),
    )
