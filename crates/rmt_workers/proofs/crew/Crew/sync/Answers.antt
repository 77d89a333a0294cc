use Rattle.std.proofs.Common.{◌≡◌, inr, sym, subst}
use Rattle.rmt_statement_model.specs.TableStates.{synced}
use Rattle.rmt_statement_model.specs.LostSources.{LacksSource}
use Rattle.rmt_pass.specs.Passes.{PassView, KeepsPass, TakesStep, up_in}
use Rattle.rmt_pass.proofs.KnownLemmas.{on-err}
use Rattle.rmt_workers.specs.Crews.{Saw}
use Rattle.rmt_workers.proofs.StepLemmas.{from-none, from-some, keeps-both, looked-keeps, looked-takes}
use Rattle.rmt_workers.proofs.DrainLemmas.{from-true, looked-loses, looked-on}
use Rattle.rmt_workers.proofs.crew.Crew.sync.Goals as goal

pub returns-in_err-look-clause-err : goal.returns-in_err-look-clause-err
returns-in_err-look-clause-err g c =
    on-err c.from_residual.result (KeepsPass c.args.pass.now c.args.table c.look.new.pass)
    (keeps-both c.args.pass.now c.tries.pass c.look.new.pass c.args.table (looked-keeps c.args.pass.now c.tries.pass c.args.table c.tries.invariant.2) c.in_err-look.ensures.err)

pub returns-then-branch-clause-syncs : goal.returns-then-branch-clause-syncs
returns-then-branch-clause-syncs g c =
    looked-takes g.N.Naming.offered c.args.pass.now c.tries.pass c.look.new.pass c.args.table (λ t u. u ≡ synced c.args.replica t) c.tries.invariant.2
    (from-true c.in_ok-look.field-0 (TakesStep g.N.Naming.offered c.tries.pass c.args.table (λ t u. u ≡ synced c.args.replica t) c.look.new.pass) (Saw c.tries.pass c.args.table c.look.new.pass) c.if-branch.true c.in_ok-look.ensures.looks)

pub returns-in_err-refusal-clause-err : goal.returns-in_err-refusal-clause-err
returns-in_err-refusal-clause-err g c =
    let saw = looked-on g.N.Naming.offered c.args.pass.now c.tries.pass c.look.new.pass c.args.table c.args.replica c.in_ok-look.field-0 c.tries.invariant.2 c.if-branch.false c.in_ok-look.ensures.looks in
    on-err c.from_residual-in_err-refusal.result (KeepsPass c.args.pass.now c.args.table c.advance.new.pass)
    (subst (λ (p : PassView). KeepsPass c.args.pass.now c.args.table p) (sym c.in_err-refusal.ensures.err) saw.keeps)

pub returns-in-Some-2-clause-syncs : goal.returns-in-Some-2-clause-syncs
returns-in-Some-2-clause-syncs g c =
    let saw = looked-on g.N.Naming.offered c.args.pass.now c.tries.pass c.look.new.pass c.args.table c.args.replica c.in_ok-look.field-0 c.tries.invariant.2 c.if-branch.false c.in_ok-look.ensures.looks in
    looked-loses g.N.Naming.offered c.args.pass.now c.look.new.pass c.advance.new.pass c.args.table c.args.replica c.in-Some-2.refusal saw
    (from-some c.in_ok-refusal.field-0 c.in-Some-2.refusal (c.advance.new.pass ≡ c.look.new.pass) (λ why. TakesStep g.N.Naming.offered c.look.new.pass c.args.table (λ t u. LacksSource (up_in c.look.new.pass.up) t c.args.replica why u) c.advance.new.pass) c.in-Some-2.is c.in_ok-refusal.ensures.ok)

pub tries-preserved : goal.tries-preserved
tries-preserved g c =
    let saw = looked-on g.N.Naming.offered c.args.pass.now c.tries.pass c.look.new.pass c.args.table c.args.replica c.in_ok-look.field-0 c.tries.invariant.2 c.if-branch.false c.in_ok-look.ensures.looks in (
      tt,
      tt,
      inr (subst (λ (p : PassView). Saw c.args.pass.now c.args.table p)
          (sym (from-none c.in_ok-refusal.field-0 (c.advance.new.pass ≡ c.look.new.pass) (λ why. TakesStep g.N.Naming.offered c.look.new.pass c.args.table (λ t u. LacksSource (up_in c.look.new.pass.up) t c.args.replica why u) c.advance.new.pass) c.in_default.is c.in_ok-refusal.ensures.ok)) saw),
    )
