use Rattle.std.proofs.Common.{◌≡◌, ℕ, true, arith, subst}
use Rattle.rmt_statement_model.specs.QuorumCopies.{CopiesTo}
use Rattle.rmt_pass.specs.Passes.{KeepsPass, up_in}
use Rattle.rmt_pass.proofs.KnownLemmas.{on-err}
use Rattle.rmt_workers.specs.CrewInserts.{TakesInto}
use Rattle.rmt_workers.proofs.StepLemmas.{keeps-both, saw-of}
use Rattle.rmt_workers.proofs.InsertLemmas.{copies-all, copies-one-more}
use Rattle.rmt_workers.proofs.crew.Crew.copy_all.Goals as goal

pub replicas-init : goal.replicas-init
replicas-init g c = λ first x. x

pub returns-in_err-copy_at-clause-err : goal.returns-in_err-copy_at-clause-err
returns-in_err-copy_at-clause-err g c =
    on-err c.from_residual-in_err-copy_at.result (KeepsPass c.args.pass.now c.args.table c.copy_at.new.pass)
    (keeps-both c.args.pass.now c.replicas.pass c.copy_at.new.pass c.args.table (c.replicas.invariant c.args.pass.now c.in_ok-note_writer.ensures.ok).keeps c.in_err-copy_at.ensures.err)

pub replicas-preserved : goal.replicas-preserved
replicas-preserved g c = λ first x.
    copies-one-more g.N.Naming.offered first c.replicas.pass c.copy_at.new.pass c.args.table c.args.writer c.args.place c.replicas.before (c.replicas.invariant first x) c.in_ok-copy_at.ensures.ok

pub returns-in_err-_guard-clause-err : goal.returns-in_err-_guard-clause-err
returns-in_err-_guard-clause-err g c =
    on-err c.from_residual-in_err-_guard.result (KeepsPass c.args.pass.now c.args.table c.see.new.pass)
    (keeps-both c.args.pass.now c.replicas.pass c.see.new.pass c.args.table (c.replicas.invariant c.args.pass.now c.in_ok-note_writer.ensures.ok).keeps c.in_err-_guard.ensures.err)

pub returns-clause-ok : goal.returns-clause-ok
returns-clause-ok g c =
    let all : c.replicas.before ≡ 8 = omega (arith, c.replicas-test.false, c.replicas.auto.before-end) in
    copies-all g.N.Naming.offered c.args.pass.now c.replicas.pass c.see.new.pass c.args.table c.args.writer c.args.place
    (subst (λ (n : ℕ). TakesInto g.N.Naming.offered c.args.pass.now c.args.table (λ t u. CopiesTo true (up_in c.args.pass.now.up) c.args.writer c.args.place n t u) c.replicas.pass) all
    (c.replicas.invariant c.args.pass.now c.in_ok-note_writer.ensures.ok))
    (saw-of c.replicas.pass c.args.table c.in_ok-_guard._guard.value c.see.new.pass c.in_ok-_guard.ensures.ok)
